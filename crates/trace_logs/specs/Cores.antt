-- The core of a node at a place of a walk.
use Rattle.std.specs.Prelude.{◌≡◌, false, List, ◌++◌, Result, IfOk, OnOk}
use Rattle.pseudo_time.specs.declared.nodes.NodeId.{NodeId}
use Rattle.pseudo_time.specs.declared.nodes.NodeKind.{NodeKind}
use Rattle.pseudo_time.specs.declared.nodes.NodeKind.TheVariants.{Repository, Broker}
use Rattle.effect_form.specs.declared.effects.Effect.{Effect}
use Rattle.message_form.specs.declared.turns.Turn.{Turn}
use Rattle.object_history.specs.declared.steps.HistoryFault.{HistoryFault}
use Rattle.object_history.specs.declared.steps.HistoryFault.TheVariants as fault
use Rattle.message_form.specs.Ranges.{AreEffects, AreOuts}
use Rattle.world_core.specs.Nodes.{Mind, Given, Input, gives}
use Rattle.world_core.specs.Walks.{Base}
pub use Rattle.world_core.specs.Cores.{IsRepository, IsBroker, own_acts, acts_for}
use Rattle.trace_logs.specs.declared.cores.NodeCore.{NodeCore}
use Rattle.trace_logs.specs.declared.cores.NodeCore.TheVariants as core

-- only memory ran out
abbrev pub IsWant : HistoryFault → Type 0
IsWant f = f ≡ fault.NoMemory

abbrev pub kind_of : NodeCore → NodeKind
kind_of (core.Repository r) = Repository
kind_of (core.Broker p) = Broker

-- no call of the core has failed
abbrev pub IsAble : NodeCore → Type 0
IsAble (core.Repository r) = r.is_failed ≡ false
IsAble (core.Broker p) = Unit {0}

-- the core is where this log, oldest effect first, and what the node remembers beside it have led it
abbrev pub StandsFor : Base → NodeId → List Effect → Mind → NodeCore → Type 0
StandsFor b n log mind (core.Repository r) = IsRepository n log mind r
StandsFor b n log mind (core.Broker p) = IsBroker b n log mind p

-- the turn is what the rules give, and the core continues from there
pub record Gave (b : Base) (n : NodeId) (log : List Effect) (g : Given) (t : Turn) (new : NodeCore) : Type 0 where
  pub effects : t.effects ≡ g.effects
  pub outs : t.outs ≡ g.outs
  pub stands : StandsFor b n (log ++ g.effects) g.mind new

-- A core was given this input. Where it gave a turn, that is in range, and no call of it has failed; and the turn is what the rules
-- give over each log that the core stands for.
pub record IsGiven {E : Type 0} (old new : NodeCore) (input : Input) (result : Result Turn E) : Type 0 where
  pub gave : (b : Base) (n : NodeId) (log : List Effect) (mind : Mind) → StandsFor b n log mind old
      → IfOk result (λ t. Gave b n log (gives b.script b.run b.acts n log mind input) t new)
  pub kind : kind_of new ≡ kind_of old
  pub able : OnOk result (IsAble new)
  pub in_range : IfOk result (λ t. AreEffects t.effects × AreOuts t.outs)
