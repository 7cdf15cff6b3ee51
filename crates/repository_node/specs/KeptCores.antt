-- Where a repository's core stands.
use Rattle.std.specs.Prelude.{◌≡◌, Bool, true, false, not, List, [], ◌++◌}
use Rattle.pseudo_time.specs.declared.nodes.NodeId.{NodeId}
use Rattle.effect_form.specs.declared.effects.Effect.{Effect}
use Rattle.version_store.specs.StoreWords.{medium_of}
use Rattle.object_history.specs.declared.marks.Mark.{Mark}
use Rattle.object_header.specs.Ledgers.{content}
use Rattle.object_header.specs.Tables.{ledger_of, store_of}
use Rattle.repository_core.specs.Cores.{HasMarks}
use Rattle.node_turn.specs.WorldCores.{IsRepository}
use Rattle.node_turn.specs.Walks.{Life, all_effects}
use Rattle.repository_node.specs.declared.kept_cores.KeptCore.{KeptCore}
use Rattle.repository_node.specs.declared.kept_cores.KeptCore.TheVariants.{Open, Shut}

-- no call of its core has failed
abbrev pub is_able : {M : Type 0} {g : _} → KeptCore M g → Bool
is_able (Open core) = not core.is_failed
is_able (Shut medium) = false

abbrev pub medium_in : {M : Type 0} {g : _} → KeptCore M g → M
medium_in (Open core) = medium_of (store_of core.histories)
medium_in (Shut medium) = medium

-- the core has this life, and its store the life's durable log
abbrev pub HasLife : {M : Type 0} {g : _} → KeptCore M g → NodeId → Life → Type 0
HasLife (Open core) n l = IsRepository n (all_effects l) l.mind core × ((ledger_of core.histories).log ≡ l.gated)
HasLife (Shut medium) n l = ⊥

-- of the core's log, these effects aren't in its store yet
abbrev pub Owes : {M : Type 0} {g : _} → KeptCore M g → List Effect → Type 0
Owes (Open core) effects = core.log ≡ (ledger_of core.histories).log ++ effects
Owes (Shut medium) effects = ⊥

-- the marks of its histories, newest first
abbrev pub marks_in : {M : Type 0} {g : _} → KeptCore M g → List Mark
marks_in (Open core) = content (ledger_of core.histories)
marks_in (Shut medium) = []

-- the log of its core, oldest first
abbrev pub log_in : {M : Type 0} {g : _} → KeptCore M g → List Effect
log_in (Open core) = core.log
log_in (Shut medium) = []

-- where no call of its core has failed, the histories have the marks of the core's log
abbrev pub HasMarksOfLog : {M : Type 0} {g : _} → KeptCore M g → Type 0
HasMarksOfLog kept = is_able kept ≡ true → HasMarks (marks_in kept) (log_in kept)
