-- How a run of votes begins.
use Rattle.std.specs.Prelude.{◌≡◌, ◌⊎◌, ℕ, ◌^◌, ◌≤◌, min, false, IsTrue, List, [], ◌∷◌, length, Option, Some, Ok}
use Rattle.pseudo_time.specs.Nodes.{repository}
use Rattle.pseudo_time.specs.declared.nodes.NodeId.{NodeId}
use Rattle.stream_port.specs.Clocks.{Adds as Answers}
use Rattle.stream_port.specs.declared.fates.Asked.{Asked}
use Rattle.message_core.specs.Flights.{was_shut}
use Rattle.message_core.specs.Parts.{state_of}
use Rattle.version_store.specs.Storage.{storage}
use Rattle.version_store.specs.StoreWords as words
use Rattle.record_votes.specs.declared.member_numbers.MemberNumber.{MemberNumber}
use Rattle.record_votes.specs.Polls.{PollState, member}
use Rattle.world_core.specs.declared.entries.Entry.TheVariants.{Down}
use Rattle.world_core.specs.declared.traces.Opened.{Opened}
use Rattle.vote_run.specs.Flagged.{names_of}
use Rattle.vote_run.specs.Media.{Media}
use Rattle.vote_run.specs.Openings.{log_in}
use Rattle.vote_run.specs.Opening.{Opening}
use Rattle.vote_run.specs.Opening.TheVariants as opening
use Rattle.vote_form.specs.declared.poll_lines.PollLine.{PollLine}
use Rattle.vote_run.specs.Legal.{WasNotOpened}
use Rattle.vote_run.specs.Walks.{log_at}
use Rattle.vote_run.specs.Couriers.{CourierParts, IsNew, with_entry}
use Rattle.vote_run.specs.Places.{Tells}
use Rattle.vote_run.specs.Stations.{hall_of}
use Rattle.vote_run.specs.Ends.{Between}
use Rattle.vote_run.specs.Fares.{AllFare}
use Rattle.vote_run.specs.Lasts.{AllLast}
use Rattle.vote_run.specs.Voters.{opened_voters}
use Rattle.vote_run.specs.declared.members.Members.{Members}
use Rattle.vote_run.specs.declared.seats.Seat.{Seat}
use Rattle.vote_run.specs.declared.seats.Seat.TheVariants.{Up, Fallen, Wanting}
use Rattle.vote_call.specs.Media.{HaveOpened, medium_of}
use Rattle.vote_call.specs.Polls.{lines_of, polls_from}
use Rattle.vote_call.specs.declared.member_media.MemberMedia.{MemberMedia}
use Rattle.vote_call.specs.declared.openings.Openings.{Openings}

module _ {M : Type 0} {g : _} where
  -- the members with the logs of what was opened, and so many polls
  abbrev pub opened_for : Openings M g → ℕ → List Opened
  opened_for os polls = opened_voters (log_in os.first) (log_in os.second) (log_in os.third) polls

  -- A courier between them begins. The clock was asked once, for the start.
  pub record BeginsOver (os : Openings M g) (polls : ℕ) (asked : List Asked) (answers : Option (List ℕ)) (c : CourierParts) : Type 0 where
    pub new : IsNew (names_of (opened_for os polls)) (opened_for os polls) asked c
    pub first : ℕ
    pub added : Answers answers c.answers (first ∷ [])
    pub start : c.start ≡ min first (2 ^ 62)

  -- a member that can't be opened is down
  abbrev pub Falls : NodeId → Opening M g → CourierParts → CourierParts → Type 0
  Falls n (opening.Open store effects) c d = d ≡ c
  Falls n (opening.Shut left cause) c d = (state_of d.flight ≡ was_shut (state_of c.flight) n) × (d ≡ record (with_entry c (Down n cause)) { flight = d.flight })
  Falls n (opening.Wanting left) c d = d ≡ c

  -- and so each, in order
  pub record Fall (os : Openings M g) (c d : CourierParts) : Type 0 where
    pub one : CourierParts
    pub two : CourierParts
    pub first : Falls (repository 1) os.first c one
    pub second : Falls (repository 2) os.second one two
    pub third : Falls (repository 3) os.third two d

  -- ---- seats

  -- the seat of a member, by what came of opening its medium
  abbrev pub seat_for : ℕ → ℕ → Opening M g → Seat M g
  seat_for number start (opening.Open store effects) = Up (record { number = number; log = effects.items; moment = start }) store (length effects.items) false
  seat_for number start (opening.Shut left cause) = Fallen left
  seat_for number start (opening.Wanting left) = Wanting left

  -- memory ran out for its log
  abbrev pub SeatWants : Opening M g → Seat M g → Type 0
  SeatWants (opening.Open store effects) (Wanting left) = left ≡ words.medium_of store
  SeatWants _ _ = ⊥

  abbrev pub SeatsAs : ℕ → ℕ → Opening M g → Seat M g → Type 0
  SeatsAs number start o seat = (seat ≡ seat_for number start o) ⊎ SeatWants o seat

  pub record SeatsAll (start : ℕ) (os : Openings M g) (ms : Members M g) : Type 0 where
    pub first : SeatsAs 1 start os.first ms.first
    pub second : SeatsAs 2 start os.second ms.second
    pub third : SeatsAs 3 start os.third ms.third

module _ {M : Type 0} {g : _} (w : Media M) where
  -- the media lost nothing, whichever they were
  abbrev pub LastFor : Openings M g → Members M g → Type 0
  LastFor os ms = (media : MemberMedia M) → HaveOpened w media os → AllLast w (medium_of media) ms

  -- A run of these polls has begun over these media, with all that the fates were asked and the clock had answered before.
  pub record HasBegun (media : MemberMedia M) (polls : List PollLine) (asked : List Asked) (answers : Option (List ℕ)) (c : CourierParts) (ms : Members M g) (ps : List PollState) : Type 0 where
    pub between : IsTrue w.tells → Between w (lines_of polls) c ms ps false
    pub ticks : IsTrue w.tells → (hall_of (lines_of polls) c).ticks ≡ 0
    pub fares : AllFare w (medium_of media) c.entries ms
    -- each member that was opened has the log that its medium held
    pub logs : IsTrue w.tells → (s : MemberNumber) (old : M) → (WasNotOpened c.entries (member s) → ⊥) → medium_of media s ≡ Some old → storage (w.reads old) ≡ Ok (log_at c.opened s)
    pub told : IsTrue w.tells → Tells asked answers c
    pub start : c.start ≤ 2 ^ 62

  abbrev pub BegunFor : Openings M g → CourierParts → List PollState → CourierParts → Members M g → List PollState → Type 0
  BegunFor os c ps d ms qs = (media : MemberMedia M) (polls : List PollLine) (asked : List Asked) (answers : Option (List ℕ)) → HaveOpened w media os → ps ≡ polls_from 1 polls
      → BeginsOver os (length polls) asked answers c → HasBegun media polls asked answers d ms qs
