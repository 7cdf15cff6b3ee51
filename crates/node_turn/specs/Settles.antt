-- What a repository does that settles: it learns decisions that its peers took as homes, and adds nothing else.
use Rattle.std.specs.Prelude.{◌≡◌, ◌≢◌, ℕ, true, List, ◌++◌, take, IsTrue}
use Rattle.node_inputs.specs.Lists.{Every}
use Rattle.node_inputs.specs.Effect.{Effect}
use Rattle.node_inputs.specs.Effect.TheVariants as effect
use Rattle.node_inputs.specs.Logs.{knows}
use Rattle.node_inputs.specs.Legal.{IsDecidedAs}
use Rattle.node_inputs.specs.Walks.{Life, World}
use Rattle.node_inputs.specs.Decisions.{Decided}
use Rattle.node_inputs.specs.Medium.{Ghosts as Media}
use Rattle.node_inputs.specs.Sights.{life_at}
use Rattle.node_inputs.specs.Costs.{costs, PaysFor}
use Rattle.node_turn.specs.declared.conditions.Condition.TheVariants as condition
use Rattle.node_turn.specs.Nodes.{NodeParts, Adds, StaysWhole, sight}
use Rattle.node_turn.specs.Windows.{PassesOn}

-- each of these decisions is in the durable log of its home
abbrev pub Stand : World → List Decided → Type 0
Stand w ds = Every (λ (d : Decided). IsDecidedAs w d.0 d.1) ds

-- a decision that was learned, or a read that this set free
abbrev pub IsLearned : Effect → Type 0
IsLearned e = elim e [ effect.Learn s c ↦ Unit {0} | effect.Stretch o x ↦ Unit {0} | _ ↦ ⊥ ]

-- the log knows each of these attempts
abbrev pub AreKnown : List Effect → List Decided → Type 0
AreKnown log ds = Every (λ (d : Decided). knows log d.0 ≡ true) ds

-- a log went on by what learning adds
pub record Learns (old new : List Effect) : Type 0 where
  pub more : List Effect
  pub is : new ≡ old ++ more
  pub each : Every IsLearned more

-- the durable log is as before, and the new effects went on by what learning adds
pub record Learning (old new : Life) : Type 0 where
  pub gated : new.gated ≡ old.gated
  pub fresh : Learns old.fresh new.fresh

-- the durable log went on by the first of the new effects
abbrev pub Closes : Life → Life → Type 0
Closes old new = (kept : ℕ) × (new.gated ≡ old.gated ++ take kept old.fresh)

-- A node that was to learn these decisions. Its durable log goes on by what learning adds; and if it is at work, and no fault was counted, that log
-- knows each of them.
pub record SettlesTo {M : Type 0} (w : Media M) (ds : List Decided) (old new : NodeParts M) : Type 0 where
  pub node : new.node ≡ old.node
  pub adds : Adds (sight old).own (sight new).own
  pub paid : PaysFor (costs (sight old).own) (w.faults old.medium) (costs (sight new).own) (w.faults new.medium)
  pub whole : IsTrue w.tells → new.condition ≢ condition.Wanting → StaysWhole (costs (sight old).own) (costs (sight new).own) (w.reads old.medium) (w.reads new.medium)
  pub passes : IsTrue w.tells → new.condition ≢ condition.Wanting → PassesOn old.node (sight old) (sight new) (w.stages old.medium) (w.stages new.medium)
  pub grown : IsTrue w.tells → new.condition ≢ condition.Wanting → Learns (life_at (sight old) old.node).gated (life_at (sight new) old.node).gated
  pub known : IsTrue w.tells → new.condition ≡ condition.AtWork → costs (sight new).own ≡ costs (sight old).own → AreKnown (life_at (sight new) old.node).gated ds
