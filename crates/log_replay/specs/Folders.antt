-- The logs of a folder, as a run of all attempts that they tell, of every run that there ever was.
use Rattle.std.specs.Prelude.{◌≡◌, ℕ, zero, suc, List, [], ◌∷◌, ◌++◌, map, reverse, if◌then◌else◌}
use Rattle.std.specs.Global.{Vec}
use Rattle.pseudo_time.specs.Lists.{Has}
use Rattle.pseudo_time.specs.Nodes.{broker, is_repository}
use Rattle.pseudo_time.specs.declared.nodes.NodeId.{NodeId}
use Rattle.value_form.specs.Mirror.{Block}
use Rattle.effect_form.specs.declared.effects.Effect.{Effect}
use Rattle.script_form.specs.Lines.{lines}
use Rattle.script_form.specs.Scripts.{IsScriptLines}
use Rattle.serial_model.specs.Questions.{Tree, denote}
use Rattle.broker_core.specs.Book as books
use Rattle.broker_core.specs.Book.{book, tries}
use Rattle.world_core.specs.Deeds.{RunLogs, Try, attempt}

-- the tries of brokers 1 to this number, of all runs that their logs have
unfoldable pub all_tries : (List ℕ → Tree) → (NodeId → List Effect) → ℕ → List Try
all_tries script logs zero = []
all_tries script logs (suc b) = all_tries script logs b ++ map (attempt script) (tries (book (logs (broker (suc b)))))

-- sixteen repositories and sixteen brokers, with these logs, newest effect first; `script` reads the texts of scripts
abbrev pub folder_run : (List ℕ → Tree) → (NodeId → List Effect) → RunLogs
folder_run script logs = record { repositories = 16; logs = logs; tries = all_tries script logs 16 }

-- the log with this number, from 1 on
abbrev pub log_at : List (List Effect) → ℕ → List Effect
log_at logs zero = []
log_at [] (suc n) = []
log_at (log ∷ logs) (suc zero) = log
log_at (log ∷ logs) (suc (suc n)) = log_at logs (suc n)

-- the logs of repositories and of brokers 1, 2 and so on, oldest effect first, as those of nodes, newest first
abbrev pub logs_in : List (List Effect) → List (List Effect) → NodeId → List Effect
logs_in repositories brokers n = reverse (log_at (if is_repository n.kind then repositories else brokers) n.number)

abbrev pub run_in : (List ℕ → Tree) → List (List Effect) → List (List Effect) → RunLogs
run_in script repositories brokers = folder_run script (logs_in repositories brokers)

-- the lists of these
abbrev pub items_of : List (Vec Effect) → List (List Effect)
items_of = map (λ (log : Vec Effect). log.items)

-- the tries of these brokers' logs, oldest effect first
abbrev pub tries_onto : (List ℕ → Tree) → List (List Effect) → List Try → List Try
tries_onto script [] ts = ts
tries_onto script (log ∷ more) ts = tries_onto script more (map (attempt script) (tries (book (reverse log))) ++ ts)

abbrev pub tries_of : (List ℕ → Tree) → List (List Effect) → List Try
tries_of script logs = tries_onto script logs []

-- the run's brokers have these logs, oldest effect first
abbrev pub HaveBrokers : RunLogs → List (List Effect) → Type 0
HaveBrokers k logs = (b : ℕ) → k.logs (broker b) ≡ reverse (log_at logs b)

-- a text that is a script is read as that
abbrev pub Reads : (List ℕ → Tree) → List ℕ → Type 0
Reads script text = (b : Block) → IsScriptLines 16 (lines text) b → script text ≡ denote b

-- so of all tries that these brokers' logs have, oldest effect first
abbrev pub ReadsLogs : (List ℕ → Tree) → List (List Effect) → Type 0
ReadsLogs script [] = Unit {0}
ReadsLogs script (log ∷ more) = ((t : books.Try) → Has t (tries (book (reverse log))) → Reads script t.task.script) × ReadsLogs script more
