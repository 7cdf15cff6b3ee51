-- Which deeds a run has: attempts and given writes, which stamps are committed in its logs, and the map of objects that their deeds leave.
-- Logs stand newest first.
use Rattle.std.specs.Prelude.{ℕ, zero, suc, Bool, true, false, List, [], ◌∷◌, ◌++◌, map, Option, Some, None, ◌&&◌, ◌||◌, ◌==◌, not, nat_le, if◌then◌else◌}
use Rattle.std.specs.FinMap as finite
use Rattle.pseudo_time.specs.StampParts.{StampParts}
use Rattle.pseudo_time.specs.Order.{same_stamp, stamp_lt}
use Rattle.pseudo_time.specs.declared.decisions.Decision.TheVariants.{Committed}
use Rattle.pseudo_time.specs.declared.nodes.NodeId.{NodeId}
use Rattle.pseudo_time.specs.Nodes.{repository, broker}
use Rattle.value_form.specs.declared.objects.ObjectId.{ObjectId}
use Rattle.value_form.specs.Objects.{Objects}
use Rattle.effect_form.specs.declared.effects.Effect.{Effect}
use Rattle.effect_form.specs.declared.effects.Effect.TheVariants as effect
use Rattle.effect_form.specs.declared.outcomes.Outcome.{Outcome}
use Rattle.object_history.specs.declared.marks.Mark.{Mark}
use Rattle.object_history.specs.History.{at_put}
use Rattle.script_meaning.specs.Meaning.{Answer}
use Rattle.serial_model.specs.Questions.{Tree}
pub use Rattle.serial_model.specs.Deeds.{Version, Deed, after_deed, after_deeds, set_all}
unfoldable pub use Rattle.serial_model.specs.Deeds.{put_in, stamp_in, stamp_if, lines_written}
use Rattle.serial_model.specs.Deeds.Deed.{Alone, Given}
use Rattle.plan_form.specs.declared.plans.Plan.{Plan}
use Rattle.repository_core.specs.Logs.{marks, knows}
use Rattle.broker_core.specs.Book as books
use Rattle.broker_core.specs.Book.{Book, book, tries_of}
use Rattle.broker_core.specs.Counted.{counted}
use Rattle.broker_core.specs.Tasks.{tasks}
use Rattle.value_form.specs.declared.acts.ActSpec.{ActSpec}
use Rattle.world_core.specs.Nodes.{acts_of}

-- an attempt at an act, as its broker's log tells it; the answers stand oldest first
pub record Try : Type 0 where
  pub stamp : StampParts
  pub script : Tree
  pub answers : List Answer
  pub ended : Option Outcome

-- a run at one moment: how many repositories it has, the durable log of each node, and the attempts of its brokers
pub record RunLogs : Type 0 where
  pub repositories : ℕ
  pub logs : NodeId → List Effect
  pub tries : List Try

abbrev pub log_of : RunLogs → ℕ → List Effect
log_of k r = k.logs (repository r)

abbrev pub in_run : RunLogs → ℕ → Bool
in_run k r = nat_le 1 r && nat_le r k.repositories

-- ---- committed stamps

-- of some repository of the run the test holds
unfoldable pub some_of : ℕ → (ℕ → Bool) → Bool
some_of zero f = false
some_of (suc n) f = f (suc n) || some_of n f

-- the first that the log says of the stamp is its Decide Committed
unfoldable pub has_commit : StampParts → List Effect → Bool
has_commit s [] = false
has_commit s (effect.Decide t Committed ∷ log) = (same_stamp t s && not (knows log s)) || has_commit s log
has_commit s (f ∷ log) = has_commit s log

-- and that it was learned as committed
unfoldable pub has_learned : StampParts → List Effect → Bool
has_learned s [] = false
has_learned s (effect.Learn t true ∷ log) = (same_stamp t s && not (knows log s)) || has_learned s log
has_learned s (f ∷ log) = has_learned s log

-- Its home's log has its Decide Committed. Where its home isn't of this run, a log of the run has its Learn as committed.
unfoldable pub committed : RunLogs → StampParts → Bool
committed k s = if in_run k s.home then has_commit s (log_of k s.home) else some_of k.repositories (λ r. has_learned s (log_of k r))

-- the marks of the object's repository, where that is of the run
unfoldable pub marks_at : RunLogs → ObjectId → List Mark
marks_at k o = if in_run k o.repository then marks (log_of k o.repository) else []

-- ---- the puts of a stamp

unfoldable pub puts_of : StampParts → List Mark → List Version → List Version
puts_of s [] ps = ps
puts_of s (f ∷ m) ps =
    at_put (λ o x v below. if same_stamp x.stamp s then put_in (record { object = o; start = x; value = v }) below else below) f (puts_of s m ps)

unfoldable pub puts_to : RunLogs → StampParts → ℕ → List Version
puts_to k s zero = []
puts_to k s (suc n) = puts_of s (marks (log_of k (suc n))) (puts_to k s n)

-- the puts with this stamp in the logs of all repositories, in the order of their starts
abbrev pub written : RunLogs → StampParts → List Version
written k s = puts_to k s k.repositories

-- ---- deeds

-- the attempt of the run with this stamp
unfoldable pub find : StampParts → List Try → Option Try
find s [] = None
find s (t ∷ ts) = if same_stamp t.stamp s then Some t else find s ts

-- An attempt of the run is carried out alone. Else the puts of the stamp are given writes.
abbrev pub deed_of : Option Try → List Version → Deed
deed_of (Some t) ws = Alone t.script
deed_of None ws = Given ws

-- the deed of a stamp
abbrev pub deed : RunLogs → StampParts → Deed
deed k s = deed_of (find s k.tries) (written k s)

-- ---- one deed after another

unfoldable pub put_stamps : (StampParts → Bool) → List Mark → List StampParts → List StampParts
put_stamps ok [] ss = ss
put_stamps ok (f ∷ m) ss = at_put (λ o x v below. stamp_if (ok x.stamp) x.stamp below) f (put_stamps ok m ss)

unfoldable pub log_stamps : RunLogs → (StampParts → Bool) → ℕ → List StampParts → List StampParts
log_stamps k ok zero ss = ss
log_stamps k ok (suc n) ss = put_stamps ok (marks (log_of k (suc n))) (log_stamps k ok n ss)

unfoldable pub try_stamps : (StampParts → Bool) → List Try → List StampParts
try_stamps ok [] = []
try_stamps ok (t ∷ ts) = stamp_if (ok t.stamp) t.stamp (try_stamps ok ts)

-- the stamps that pass, of attempts of the run and of puts in its logs
abbrev pub deed_stamps : RunLogs → (StampParts → Bool) → List StampParts
deed_stamps k ok = log_stamps k ok k.repositories (try_stamps ok k.tries)

-- the deeds of these stamps, one after another
unfoldable pub all_deeds : RunLogs → List StampParts → Objects → Objects
all_deeds k ss m = after_deeds (map (deed k) ss) m

-- the map after all committed deeds with stamps below s, in rising order
unfoldable pub before : RunLogs → StampParts → Objects
before k s = all_deeds k (deed_stamps k (λ t. stamp_lt t s && committed k t)) finite.empty

-- the same of all committed stamps
unfoldable pub finals : RunLogs → Objects
finals k = all_deeds k (deed_stamps k (λ t. committed k t)) finite.empty

-- ---- the attempts of a run

-- an attempt of a broker's book; `script` reads the texts of scripts
abbrev pub attempt : (List ℕ → Tree) → books.Try → Try
attempt script t = record { stamp = t.stamp; script = script t.task.script; answers = t.answers; ended = t.end }

-- the attempts of this run in a broker's book
abbrev pub book_tries : (List ℕ → Tree) → ℕ → Book → List Try
book_tries script run b = if b.run == run then map (attempt script) (tries_of b.acts) else []

-- of brokers 1 to this number
unfoldable pub run_tries : (List ℕ → Tree) → ℕ → List ActSpec → (NodeId → List Effect) → ℕ → List Try
run_tries script run acts logs zero = []
run_tries script run acts logs (suc b) = run_tries script run acts logs b ++ book_tries script run (counted script (suc b) run (tasks (acts_of (suc b) acts)) (logs (broker (suc b))))

-- a run of this plan
abbrev pub run_of : (List ℕ → Tree) → Plan → (NodeId → List Effect) → RunLogs
run_of script plan logs = record { repositories = plan.repositories; logs = logs; tries = run_tries script plan.run plan.acts logs plan.brokers }
