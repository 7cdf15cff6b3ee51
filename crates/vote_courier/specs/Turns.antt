-- What turns of polls do.
use Rattle.std.specs.Prelude.{◌≡◌, ◌⊎◌, Bool, true, false, [], Some}
use Rattle.pseudo_time.specs.declared.nodes.NodeId.{NodeId}
use Rattle.message_core.specs.declared.letters.Arrival.{Arrival}
use Rattle.message_core.specs.Flights.{waiting}
use Rattle.message_core.specs.Parts.{state_of}
use Rattle.record_votes.specs.Polls.{PollState, poll_goes, poll_hears, poll_takes}
use Rattle.world_core.specs.declared.entries.Entry.TheVariants.{Go, Hear}
use Rattle.vote_courier.specs.Couriers.{CourierParts, HasSent, Takes, with_entry}

-- it goes
abbrev pub Goes : NodeId → (old new : CourierParts) → (p q : PollState) → Type 0
Goes n old new p q = (q ≡ p) × HasSent n (poll_goes p) (with_entry old (Go n)) new

-- it hears the last Tick
abbrev pub HearsTick : NodeId → (old new : CourierParts) → (p q : PollState) → Type 0
HearsTick n old new p q = (q ≡ p) × HasSent n (poll_hears p) (with_entry old (Hear n)) new

-- a copy was taken, and what it asks for was sent
pub record TookCopy (n : NodeId) (old new : CourierParts) (p q : PollState) : Type 0 where
  pub arrival : Arrival
  pub mid : CourierParts
  pub takes : Takes n old mid (Some arrival)
  pub sends : HasSent n (poll_takes p arrival.from arrival.message).outs mid new
  pub poll : q ≡ (poll_takes p arrival.from arrival.message).poll

-- no copy was due
pub record FoundNone (n : NodeId) (old new : CourierParts) (p q : PollState) : Type 0 where
  pub none : waiting (state_of old.flight) n ≡ []
  pub still : new ≡ old
  pub poll : q ≡ p

-- a turn: behind the last Tick it hears, else it takes a copy that is due
abbrev pub PollTurns : Bool → NodeId → (old new : CourierParts) → (p q : PollState) → Type 0
PollTurns true n old new p q = HearsTick n old new p q
PollTurns false n old new p q = FoundNone n old new p q ⊎ TookCopy n old new p q
