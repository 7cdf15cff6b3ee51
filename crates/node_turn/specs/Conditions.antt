-- What a node keeps in each condition.
use Rattle.std.specs.Prelude.{◌≡◌, ◌≢◌, ℕ, Bool, false}
use Rattle.node_inputs.specs.NodeId.{NodeId}
use Rattle.node_inputs.specs.DownCause.TheVariants as down
use Rattle.node_inputs.specs.Medium.{Ghosts as Media}
use Rattle.node_inputs.specs.HistoryFault.{HistoryFault}
use Rattle.node_inputs.specs.HistoryFault.TheVariants as fault
use Rattle.node_inputs.specs.Sights.{Sight}
use Rattle.node_turn.specs.declared.conditions.Condition.{Condition}
use Rattle.node_turn.specs.declared.conditions.Condition.TheVariants as condition
use Rattle.node_inputs.specs.declared.core_meanings.Meanings.{Ghosts as Meanings}
use Rattle.node_inputs.specs.Lives.{IsUp, IsStored, IsDown, no_draft}

-- a node that goes down for a damaged page of its core names that page
abbrev pub NamesPage : HistoryFault → Condition → Type 0
NamesPage fault.NoMemory c = Unit {0}
NamesPage fault.Medium c = Unit {0}
NamesPage (fault.Damaged page) c = c ≢ condition.Wanting → c ≡ condition.Down (down.Damaged page)

-- The meanings are those of a type K of cores over media of a type M. `k` is what the node's pass has seen.
module _ {K M : Type 0} (w : Media M) (m : Meanings K M) where
  -- What a node keeps in each condition. Nothing is open between two turns, unless memory runs out.
  abbrev pub Keeps : Condition → K → Sight → NodeId → Bool → ℕ → Type 0
  Keeps condition.AtWork core k n gone durable = IsUp w m core k n gone false (no_draft durable)
  Keeps (condition.Down cause) core k n gone durable = IsDown w m core k n cause
  Keeps condition.Wanting core k n gone durable = IsStored w m core k n
