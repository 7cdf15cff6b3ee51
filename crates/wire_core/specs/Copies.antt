-- How the copies in flight follow from the entries and the messages that were sent.
use Rattle.std.specs.Prelude.{◌≡◌, ℕ, List, map, is_some}
use Rattle.pseudo_time.specs.declared.nodes.NodeId.{NodeId}
use Rattle.message_core.specs.Flights.{State}
use Rattle.message_core.specs.Senders.{letter_of}
use Rattle.message_core.specs.Tallies as tallies
use Rattle.message_core.specs.Tallies.{Tally, Tallied, count}
use Rattle.world_core.specs.declared.traces.Sent.{Sent}
use Rattle.world_core.specs.Walks.{Sending, World}
use Rattle.world_core.specs.Legal.{post_of, times_taken}

-- a message that was sent, and how many Ticks stand before
pub record Marked : Type 0 where
  pub sent : Sent
  pub ticks : ℕ

abbrev pub sent_of : Marked → Sent
sent_of m = m.sent

-- as the walk has it
abbrev pub posted : Marked → Sending
posted m = record { post = post_of m.sent; ticks = m.ticks }

-- as the flight's law of counts has it
abbrev pub tallied : Marked → tallies.Posted
tallied m = record { to = m.sent.to; fate = m.sent.fate; ticks = m.ticks }

-- these messages, sent after so many Ticks
abbrev pub all_marked : ℕ → List Sent → List Marked
all_marked ticks sent = map (λ (s : Sent). record { sent = s; ticks = ticks }) sent

-- The due and held copies are those of these messages, less those that were taken; of a node that is down they were given up.
pub record IsTied (s : State) (w : World) (sent : List Sent) (marks : List Marked) : Type 0 where
  pub ledger : Tally
  pub tally : Tallied s ledger
  pub taken : (k : ℕ) → count k ledger.taken ≡ times_taken w k
  pub sendings : ledger.sendings ≡ map tallied marks
  pub sent_are : sent ≡ map sent_of marks
  pub letters : s.letters ≡ map letter_of (map post_of sent)
  pub ticks : s.ticks ≡ w.ticks
  pub opened : (n : NodeId) → is_some (s.queues n) ≡ (w.flags n).up
