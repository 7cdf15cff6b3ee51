-- What arrives of a flight.
use Rattle.std.specs.Prelude.{◌≡◌, ◌-◌, ◌≤◌, [], Option, Some, None, slice_get}
use Rattle.pseudo_time.specs.declared.nodes.NodeId.{NodeId}
use Rattle.message_form.specs.Messages.{IsMessage, message_bytes}
use Rattle.message_core.specs.declared.letters.Arrival.{Arrival}
use Rattle.message_core.specs.Flights.{State, waiting}

-- the front copy of the node's queue, with the message of its number among the messages sent
pub record IsFront (s : State) (node : NodeId) (a : Arrival) : Type 0 where
  pub front : slice_get (waiting s node) 0 ≡ Some a.number
  pub from_one : 1 ≤ a.number
  pub letter : slice_get s.letters (a.number - 1) ≡ Some (record { from = a.from; to = node; text = message_bytes a.message })
  pub in_range : IsMessage a.message

-- nothing arrives exactly where no copy is due
abbrev pub Arrives : State → NodeId → Option Arrival → Type 0
Arrives s node None = waiting s node ≡ []
Arrives s node (Some a) = IsFront s node a
