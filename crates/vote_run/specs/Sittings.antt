-- Where members and their media stand between turns.
use Rattle.std.specs.Prelude.{◌≡◌, ◌⊎◌, ℕ, ◌<◌, Bool, false, List, length, Option, Some, None, Ok}
use Rattle.std.specs.List.{count_by}
use Rattle.pseudo_time.specs.Nodes.{same_node}
use Rattle.pseudo_time.specs.declared.down_causes.DownCause.{DownCause}
use Rattle.pseudo_time.specs.declared.down_causes.DownCause.TheVariants as down
use Rattle.effect_form.specs.declared.effects.Effect.{Effect}
use Rattle.page_gate.specs.States.{is_blank}
use Rattle.version_store.specs.Filling.{filling}
use Rattle.version_store.specs.Storage.{storage}
use Rattle.version_store.specs.StoreWords.{effects_in, medium_of}
use Rattle.version_store.specs.declared.stores.Store.{Store}
use Rattle.record_votes.specs.Books.{MemberState}
use Rattle.record_votes.specs.declared.member_numbers.MemberNumber.{MemberNumber}
use Rattle.record_votes.specs.Polls.{member, number_of}
use Rattle.record_votes.specs.Voting.{Line}
use Rattle.run_media.specs.Media.{Media}
use Rattle.vote_members.specs.Closings.{LeavesLog, LeavesPrefix}
use Rattle.world_core.specs.Counts.{down_cause}
use Rattle.vote_courier.specs.Legal.{WasNotOpened}
use Rattle.vote_courier.specs.Couriers.{CourierParts}
use Rattle.vote_courier.specs.Stations.{hall_of}
use Rattle.vote_courier.specs.Places.{Keeps}
use Rattle.vote_run.specs.Seats.{MemberIsAt, MemberIsDown}
use Rattle.vote_run.specs.declared.seats.Seat.{Seat}
use Rattle.vote_run.specs.declared.seats.Seat.TheVariants.{Up, Fallen, Wanting}

-- A member that wasn't opened.
pub record SitsDown (lines : List Line) (c : CourierParts) (s : MemberNumber) : Type 0 where
  pub down : ((hall_of lines c).flags (member s)).up ≡ false
  pub out : WasNotOpened c.entries (member s)

-- What a medium shows of this cause, where the log is durable and the effects weren't: it is full.
abbrev pub ShowsCause : {M : Type 0} → Media M → DownCause → M → (log effects : List Effect) → Type 0
ShowsCause w down.Medium m log effects = Unit {0}
ShowsCause w (down.Damaged page) m log effects = ⊥
ShowsCause w (down.Full pages) m log effects = (pages ≡ w.page_count m) × (storage (w.reads m) ≡ Ok log) × (count_by is_blank (w.reads m) < length (filling effects))

-- A member that went down: a crash leaves its log with the first of the effects that it couldn't make durable.
pub record SitsFallen {M : Type 0} (w : Media M) (lines : List Line) (c : CourierParts) (s : MemberNumber) (left : Option M) : Type 0 where
  pub medium : M
  pub is : left ≡ Some medium
  pub log : List Effect
  pub effects : List Effect
  pub at : MemberIsDown (hall_of lines c) s log effects
  pub leaves : LeavesPrefix w medium log effects
  pub cause : DownCause
  pub down_is : down_cause (member s) c.entries ≡ Some cause
  pub shows : ShowsCause w cause medium log effects

module _ {M : Type 0} {g : _} (w : Media M) (lines : List Line) where
  -- A member that is up: its store has its log, and a crash leaves that.
  pub record SitsUp (c : CourierParts) (s : MemberNumber) (m : MemberState) (store : Store M g) (durable : ℕ) (behind : Bool) : Type 0 where
    pub number : m.number ≡ number_of s
    pub sound : w.is_failed (medium_of store) ≡ false
    pub count : durable ≡ length m.log
    pub at : MemberIsAt (hall_of lines c) s m behind
    pub has : effects_in w.reads store ≡ m.log
    pub left : LeavesLog w (medium_of store) m.log
    pub never : down_cause (member s) c.entries ≡ None

  abbrev pub Sits : CourierParts → MemberNumber → Seat M g → Type 0
  Sits c s (Up m store durable behind) = SitsUp c s m store durable behind
  Sits c s (Fallen left) = SitsFallen w lines c s left ⊎ SitsDown lines c s
  Sits c s (Wanting left) = ⊥

  -- What a turn of this member leaves, unless memory ran out.
  abbrev pub SatOn : CourierParts → CourierParts → MemberNumber → Seat M g → Type 0
  SatOn c d s (Up m store durable behind) = Keeps lines (same_node (member s)) c d × SitsUp d s m store durable behind
  SatOn c d s (Fallen left) = Keeps lines (same_node (member s)) c d × (SitsFallen w lines d s left ⊎ SitsDown lines d s)
  SatOn c d s (Wanting left) = Unit {0}
