-- A courier whose trace is a legal vote trace.
use Rattle.std.specs.Prelude.{◌≡◌, true, false, List, map}
use Rattle.pseudo_time.specs.declared.nodes.NodeId.{NodeId}
use Rattle.message_core.specs.Parts.{state_of}
use Rattle.message_core.specs.Senders.{AllInRange}
use Rattle.record_votes.specs.Voting.{Line}
use Rattle.message_form.specs.declared.turns.Out.{Out}
use Rattle.world_core.specs.declared.traces.Trace.{Trace}
use Rattle.world_core.specs.Legal.{HasGone, is_behind, post_of}
use Rattle.vote_wire.specs.Copies.{Marked}
use Rattle.vote_wire.specs.Walks.{Hall, life_of, world_of}
use Rattle.vote_wire.specs.Legal.{Legal, hall_after}
use Rattle.vote_wire.specs.Carried.{IsCarried}
use Rattle.vote_courier.specs.Couriers.{CourierParts}

-- the trace so far
abbrev pub trace_of : CourierParts → Trace
trace_of c = record { start = c.start; opened = c.opened; sent = c.sent; entries = c.entries }

abbrev pub hall_of : List Line → CourierParts → Hall
hall_of lines c = hall_after lines (trace_of c)

-- The trace is legal for these polls and all that the fates were asked, and its copies are those in flight.
pub record Stands (lines : List Line) (c : CourierParts) : Type 0 where
  pub legal : Legal lines c.asked (trace_of c)
  pub marks : List Marked
  pub carried : IsCarried (state_of c.flight) (hall_of lines c) c.sent marks
  pub in_range : AllInRange (map post_of c.sent)
  pub last : c.last ≡ (hall_of lines c).last
  pub known : (n : NodeId) → ((hall_of lines c).flags n).up ≡ true → ((hall_of lines c).flags n).known ≡ true

-- ---- when a call may be made

pub record MayAct (lines : List Line) (c : CourierParts) (n : NodeId) : Type 0 where
  pub up : ((hall_of lines c).flags n).up ≡ true
  pub gone : HasGone (world_of (hall_of lines c)) n
  pub heard : is_behind (world_of (hall_of lines c)) n ≡ false

-- the messages that the node owes
abbrev pub owes : List Line → CourierParts → NodeId → List Out
owes lines c n = (life_of (hall_of lines c) n.kind n.number).outs
