-- Where polls stand between rounds, and what their turns keep.
use Rattle.std.specs.Prelude.{◌≡◌, ℕ, suc, Bool, true, false, not, ◌&&◌, nat_lt, List, Some, slice_get}
use Rattle.pseudo_time.specs.Nodes.{is_broker}
use Rattle.pseudo_time.specs.declared.nodes.NodeId.{NodeId}
use Rattle.record_votes.specs.Polls.{PollState}
use Rattle.record_votes.specs.Voting.{Line}
use Rattle.vote_courier.specs.Walks.{Hall}
use Rattle.vote_courier.specs.Couriers.{CourierParts}
use Rattle.vote_courier.specs.Stations.{hall_of}
use Rattle.vote_courier.specs.Places.{Keeps, PollIsAt, PollIsNew}

abbrev pub is_poll : NodeId → Bool
is_poll n = is_broker n.kind

-- These are the polls. The first ones, so many, have heard the last Tick; of the others it is known whether one stands that they haven't heard.
abbrev pub PollsAre : Hall → ℕ → Bool → List PollState → Type 0
PollsAre h heard behind ps = (k : ℕ) (p : PollState) → slice_get ps k ≡ Some p → PollIsAt h (suc k) p (not (nat_lt k heard) && behind)

-- These are the polls. The first ones, so many, have gone.
pub record PollsGo (h : Hall) (gone : ℕ) (ps : List PollState) : Type 0 where
  pub before : (k : ℕ) (p : PollState) → slice_get ps k ≡ Some p → nat_lt k gone ≡ false → PollIsNew h (suc k) p
  pub after : (k : ℕ) (p : PollState) → slice_get ps k ≡ Some p → nat_lt k gone ≡ true → PollIsAt h (suc k) p false

-- Turns of the first polls, so many, keep the trace legal and change no member.
pub record PollsTurned (lines : List Line) (c d : CourierParts) (turned : ℕ) (behind : Bool) (qs : List PollState) : Type 0 where
  pub keeps : Keeps lines is_poll c d
  pub polls : PollsAre (hall_of lines d) turned behind qs

-- and so if they go
pub record PollsWent (lines : List Line) (c d : CourierParts) (gone : ℕ) (qs : List PollState) : Type 0 where
  pub keeps : Keeps lines is_poll c d
  pub polls : PollsGo (hall_of lines d) gone qs
