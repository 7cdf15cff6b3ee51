-- How a member's medium has fared, by the entries that stand.
use Rattle.std.specs.Prelude.{◌≡◌, ◌⊎◌, Bool, false, IsTrue, List, [], ◌∷◌, ◌++◌, Option, Some, None}
use Rattle.pseudo_time.specs.declared.down_causes.DownCause.{DownCause}
use Rattle.pseudo_time.specs.declared.down_causes.DownCause.TheVariants as down
use Rattle.pseudo_time.specs.declared.nodes.NodeId.{NodeId}
use Rattle.stream_port.specs.Causes.{RoseBy}
use Rattle.version_store.specs.Filling.{KeepsPages, StaysClean}
use Rattle.version_store.specs.StoreWords.{medium_of}
use Rattle.record_votes.specs.declared.member_numbers.MemberNumber.{MemberNumber}
use Rattle.record_votes.specs.declared.member_numbers.MemberNumber.TheVariants.{First, Second, Third}
use Rattle.record_votes.specs.Polls.{member}
use Rattle.world_core.specs.declared.entries.Entry.{Entry}
use Rattle.world_core.specs.Walks.{is_down, own}
use Rattle.run_media.specs.Media.{Media}
use Rattle.run_media.specs.Openings.{IsAsItWas, IsShutFor}
use Rattle.world_core.specs.Counts.{down_cause}
use Rattle.vote_members.specs.Closings.{Grows}
use Rattle.vote_members.specs.Costs.{costs}
use Rattle.vote_courier.specs.Legal.{WasNotOpened}
use Rattle.vote_run.specs.declared.members.Members.{Members}
use Rattle.vote_run.specs.declared.seats.Seat.{Seat}
use Rattle.vote_run.specs.declared.seats.Seat.TheVariants.{Up, Fallen, Wanting}

-- These nodes alone added entries, and Ticks stand beside them.
pub record Lengthens (of : NodeId → Bool) (old new : List Entry) : Type 0 where
  pub more : List Entry
  pub longer : new ≡ old ++ more
  pub own_entries : (m : NodeId) → of m ≡ false → own m more ≡ []

module _ {M : Type 0} (w : Media M) (n : NodeId) where
  -- The medium failed as often as its node's entries cost. Without a fault its pages stay: none that was written is changed, and none is spoiled; and its log has grown by what was written.
  pub record HasPaid (es : List Entry) (taken now : M) : Type 0 where
    pub paid : RoseBy (costs (own n es)) (w.faults taken) (w.faults now)
    pub kept : IsTrue w.tells → costs (own n es) ≡ 0 → KeepsPages (w.reads taken) (w.reads now)
    pub clean : IsTrue w.tells → costs (own n es) ≡ 0 → StaysClean (w.reads taken) (w.reads now)
    pub grows : IsTrue w.tells → costs (own n es) ≡ 0 → Grows (w.reads taken) (w.reads now)

  -- the member is up
  pub record FaresWell (first : Option M) (es : List Entry) (now : M) : Type 0 where
    pub taken : M
    pub was : first ≡ Some taken
    pub never : down_cause n es ≡ None
    pub has_paid : HasPaid es taken now

  -- it went down after it had done something
  pub record FellLater (first : Option M) (es : List Entry) (now : M) : Type 0 where
    pub taken : M
    pub was : first ≡ Some taken
    pub before : List Entry
    pub deed : Entry
    pub after : List Entry
    pub are : es ≡ before ++ deed ∷ after
    pub acted : is_down deed ≡ false
    pub up : down_cause n before ≡ None
    pub cause : DownCause
    pub down_is : down_cause n es ≡ Some cause
    pub has_paid : HasPaid es taken now

  -- why a medium that was handed in, or is missing, wasn't opened, and what is left of it
  abbrev pub ShutAs : (first left : Option M) → DownCause → Type 0
  ShutAs None None cause = cause ≡ down.Medium
  ShutAs None (Some new) cause = ⊥
  ShutAs (Some old) None cause = ⊥
  ShutAs (Some old) (Some new) cause = IsAsItWas w old new × IsShutFor w cause old new

  -- it wasn't opened
  pub record NeverOpened (first left : Option M) (es : List Entry) : Type 0 where
    pub out : WasNotOpened es n
    pub cause : DownCause
    pub down_is : down_cause n es ≡ Some cause
    pub shut : ShutAs first left cause

  module _ {g : _} where
    abbrev pub Fares : Option M → List Entry → Seat M g → Type 0
    Fares first es (Up m store durable behind) = FaresWell first es (medium_of store)
    Fares first es (Fallen None) = NeverOpened first None es
    Fares first es (Fallen (Some now)) = FellLater first es now ⊎ NeverOpened first (Some now) es
    Fares first es (Wanting left) = ⊥

-- so fare all members, by the media that were handed in
pub record AllFare {M : Type 0} {g : _} (w : Media M) (first : MemberNumber → Option M) (es : List Entry) (ms : Members M g) : Type 0 where
  pub one : Fares w (member First) (first First) es ms.first
  pub two : Fares w (member Second) (first Second) es ms.second
  pub three : Fares w (member Third) (first Third) es ms.third

-- as they fared by the entries before, so they fare now
abbrev pub FareOn : {M : Type 0} {g : _} → Media M → List Entry → Members M g → List Entry → Members M g → Type 0
FareOn {M} w es ms fs ns = (first : MemberNumber → Option M) → AllFare w first es ms → AllFare w first fs ns
