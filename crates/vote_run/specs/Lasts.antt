-- What of members' media lasts, whatever comes of a run: the logs that they held.
use Rattle.std.specs.Prelude.{◌≡◌, ◌⊎◌, IsTrue, List, ◌++◌, Option, Some, None, Ok}
use Rattle.effect_form.specs.declared.effects.Effect.{Effect}
use Rattle.medium_port.specs.Image.{Image, NoMore}
use Rattle.version_store.specs.Storage.{storage}
use Rattle.version_store.specs.StoreWords.{effects_in, medium_of}
use Rattle.version_store.specs.declared.stores.Store.{Store}
use Rattle.record_votes.specs.declared.member_numbers.MemberNumber.{MemberNumber}
use Rattle.record_votes.specs.declared.member_numbers.MemberNumber.TheVariants.{First, Second, Third}
use Rattle.run_media.specs.Media.{IsBack, Media}
use Rattle.vote_members.specs.Closings.{LeavesLog}
use Rattle.vote_run.specs.declared.members.Members.{Members}
use Rattle.vote_run.specs.declared.seats.Seat.{Seat}
use Rattle.vote_run.specs.declared.seats.Seat.TheVariants.{Up, Fallen, Wanting}

module _ {M : Type 0} {g : _} where
  -- the medium of a seat, unless it is missing
  abbrev pub medium_in : Seat M g → Option M
  medium_in (Up m store durable behind) = Some (medium_of store)
  medium_in (Fallen left) = left
  medium_in (Wanting left) = Some left

module _ {M : Type 0} (w : Media M) where
  -- whatever a crash leaves has the log that it had, with more behind it
  abbrev pub HasItsLog : M → M → Type 0
  HasItsLog old new = (log : List Effect) × (storage (w.reads old) ≡ Ok log) × ((c : Image) → w.may_leave new c → (more : List Effect) × (storage c ≡ Ok (log ++ more)))

  -- a medium in its place that wasn't written to, or that has its log; or none where none was
  abbrev pub KeepsWhole : Option M → Option M → Type 0
  KeepsWhole None None = Unit {0}
  KeepsWhole None (Some new) = ⊥
  KeepsWhole (Some old) None = ⊥
  KeepsWhole (Some old) (Some new) = NoMore (w.may_leave old) (w.may_leave new) ⊎ HasItsLog old new

  module _ {g : _} where
    -- the store's log is the one that the medium held, with more behind it, and a crash leaves it
    pub record HasLonger (first : Option M) (s : Store M g) : Type 0 where
      pub taken : M
      pub was : first ≡ Some taken
      pub log : List Effect
      pub held : storage (w.reads taken) ≡ Ok log
      pub more : List Effect
      pub has : effects_in w.reads s ≡ log ++ more
      pub left : LeavesLog w (medium_of s) (log ++ more)

    abbrev pub LosesNothing : Option M → Seat M g → Type 0
    LosesNothing first (Up m store durable behind) = HasLonger first store
    LosesNothing first (Fallen left) = KeepsWhole first left
    LosesNothing first (Wanting left) = KeepsWhole first (Some left)

    -- it has the medium that was handed in, which has lost nothing
    pub record Lasts (first : Option M) (seat : Seat M g) : Type 0 where
      pub back : IsBack first (medium_in seat)
      pub safe : IsTrue w.tells → LosesNothing first seat

-- so it is of all members, by the media that were handed in
pub record AllLast {M : Type 0} {g : _} (w : Media M) (first : MemberNumber → Option M) (ms : Members M g) : Type 0 where
  pub one : Lasts w (first First) ms.first
  pub two : Lasts w (first Second) ms.second
  pub three : Lasts w (first Third) ms.third

-- what lasted before lasts now
abbrev pub LastOn : {M : Type 0} {g : _} → Media M → Members M g → Members M g → Type 0
LastOn {M} w ms ns = (first : MemberNumber → Option M) → AllLast w first ms → AllLast w first ns
