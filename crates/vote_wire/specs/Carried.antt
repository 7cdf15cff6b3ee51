-- How the copies in flight follow from a vote trace.
use Rattle.std.specs.Prelude.{◌≡◌, true, false, List, map}
use Rattle.pseudo_time.specs.declared.nodes.NodeId.{NodeId}
use Rattle.message_core.specs.Flights.{State}
use Rattle.world_core.specs.declared.entries.Entry.{Entry}
use Rattle.world_core.specs.declared.entries.Entry.TheVariants.{Take, Go, Learn, Hear, Gate, Crash, Down, Tick}
use Rattle.world_core.specs.declared.traces.Sent.{Sent}
use Rattle.world_core.specs.Legal.{HasGone, HasHeard}
use Rattle.wire_core.specs.Copies.{IsTied, Marked, posted}
use Rattle.vote_traces.specs.Walks.{Hall, world_of}

-- The due and held copies are those of the messages that the hall sent, less those that were taken.
pub record IsCarried (s : State) (h : Hall) (sent : List Sent) (marks : List Marked) : Type 0 where
  pub tied : IsTied s (world_of h) sent marks
  pub walked : h.sendings ≡ map posted marks

-- an entry at which no message is sent or taken, no time passes and no node goes down
abbrev pub LeavesFlight : Entry → Type 0
LeavesFlight (Take node number) = ⊥
LeavesFlight (Go node) = Unit {0}
LeavesFlight (Learn node stamp committed) = Unit {0}
LeavesFlight (Hear node) = Unit {0}
LeavesFlight (Gate node) = ⊥
LeavesFlight (Crash node kept) = Unit {0}
LeavesFlight (Down node cause) = ⊥
LeavesFlight (Tick moment) = ⊥

-- the node has nothing to close, heard the last Tick and, a poll, went
pub record IsAtRestAt (h : Hall) (n : NodeId) : Type 0 where
  pub closed : (h.flags n).due ≡ false
  pub heard : HasHeard (world_of h) n
  pub gone : HasGone (world_of h) n

-- and so does each that is up
abbrev pub IsAtRest : Hall → Type 0
IsAtRest h = (n : NodeId) → (h.flags n).up ≡ true → IsAtRestAt h n
