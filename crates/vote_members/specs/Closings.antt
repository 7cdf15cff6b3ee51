-- What closing a turn of a member leaves of its medium. Logs stand oldest first.
use Rattle.std.specs.Prelude.{◌≡◌, ℕ, ◌+◌, ◌≤◌, ◌<◌, ◌++◌, false, List, Err, Ok, take, length, IsTrue}
use Rattle.std.specs.List.{count_by}
use Rattle.stream_port.specs.Causes.{Rose, RoseBy}
use Rattle.medium_port.specs.Image.{Image, NoMore, Only}
use Rattle.page_gate.specs.States.{is_blank}
use Rattle.pseudo_time.specs.declared.down_causes.DownCause.{DownCause}
use Rattle.pseudo_time.specs.declared.down_causes.DownCause.TheVariants as down
use Rattle.effect_form.specs.declared.effects.Effect.{Effect}
use Rattle.effect_form.specs.Effects.{AreEffects}
use Rattle.version_store.specs.declared.stores.Store.{Store}
use Rattle.version_store.specs.Filling.{HasPrefix, KeepsPages, StaysClean, filling, pages_apart}
use Rattle.version_store.specs.Storage.{storage}
use Rattle.version_store.specs.StoreWords.{effects_in, medium_of}
use Rattle.run_media.specs.Media.{Media}
use Rattle.vote_members.specs.declared.closings.Closed.{Closed}
use Rattle.vote_members.specs.declared.closings.Closed.TheVariants.{Durable, Reopened, Fallen, Wanting}

-- the image's log is this one and more, and that was written on no more blank pages than it fills where no two effects share one
pub record HasGrown (log : List Effect) (old new : Image) : Type 0 where
  pub more : List Effect
  pub is : storage new ≡ Ok (log ++ more)
  pub pages : count_by is_blank old ≤ count_by is_blank new + pages_apart more

-- and so it is of whatever log it had
abbrev pub Grows : Image → Image → Type 0
Grows old new = (log : List Effect) → storage old ≡ Ok log → HasGrown log old new

module _ {M : Type 0} (w : Media M) where
  -- whatever a crash leaves has this log
  abbrev pub LeavesLog : M → List Effect → Type 0
  LeavesLog m log = (c : Image) → w.may_leave m c → storage c ≡ Ok log

  -- a crash leaves the log with the first of the effects
  abbrev pub LeavesPrefix : M → List Effect → List Effect → Type 0
  LeavesPrefix m log effects = (c : Image) → w.may_leave m c → HasPrefix log effects c

  -- and so, but for how the effects stood on pages
  abbrev pub LeavesFront : M → List Effect → List Effect → Type 0
  LeavesFront m log effects = (c : Image) → w.may_leave m c → (kept : ℕ) × (storage c ≡ Ok (log ++ take kept effects))

  -- nothing new can be left
  pub record IsGivenUp (old new : M) : Type 0 where
    pub images : IsTrue w.tells → NoMore (w.may_leave old) (w.may_leave new)
    pub later : w.faults old ≤ w.faults new

  -- why a medium that failed can't be opened anew
  abbrev pub IsLostFor : DownCause → M → M → Type 0
  IsLostFor down.Medium old new = Rose (w.faults old) (w.faults new)
  IsLostFor (down.Damaged page) old new = IsTrue w.tells → (c : Image) × w.may_leave old c × (storage c ≡ Err page)
  IsLostFor (down.Full pages) old new = ⊥

  module _ {g : _} where
    -- the store has this log, and a crash leaves it
    pub record HasLog (s : Store M g) (log : List Effect) : Type 0 where
      pub sound : w.is_failed (medium_of s) ≡ false
      pub has : IsTrue w.tells → effects_in w.reads s ≡ log
      pub left : IsTrue w.tells → LeavesLog (medium_of s) log

    -- ---- after a fault of this medium

    -- what was found is the log of an image that a crash could leave
    pub record IsFound (old : M) (s : Store M g) (effects : List Effect) : Type 0 where
      pub log : HasLog s effects
      pub in_range : AreEffects effects
      pub was : IsTrue w.tells → (c : Image) × w.may_leave old c × (storage c ≡ Ok effects)
      pub later : w.faults old ≤ w.faults (medium_of s)

    abbrev pub IsLost : M → Closed M g → Type 0
    IsLost old (Durable s) = ⊥
    IsLost old (Reopened s effects) = IsFound old s effects.items
    IsLost old (Fallen new cause) = IsGivenUp old new × IsLostFor cause old new
    IsLost old (Wanting new) = IsGivenUp old new

    -- ---- a turn's effects, over a store that hasn't failed

    -- the log that was found is the one before with the first of the effects
    pub record IsCrashed (s new : Store M g) (effects found : List Effect) : Type 0 where
      pub log : HasLog new found
      pub in_range : AreEffects found
      pub kept : IsTrue w.tells → (kept : ℕ) × (kept ≤ length effects) × (found ≡ effects_in w.reads s ++ take kept effects)
      pub count : Rose (w.faults (medium_of s)) (w.faults (medium_of new))
      pub later : w.faults (medium_of s) ≤ w.faults (medium_of new)

    -- all of them are on the medium
    pub record IsDurable (s new : Store M g) (effects : List Effect) : Type 0 where
      pub sound : w.is_failed (medium_of new) ≡ false
      pub has : IsTrue w.tells → effects_in w.reads new ≡ effects_in w.reads s ++ effects
      pub left : IsTrue w.tells → Only (w.reads (medium_of new)) (w.may_leave (medium_of new))
      pub leaves : IsTrue w.tells → LeavesPrefix (medium_of new) (effects_in w.reads s) effects
      -- no page that was written is changed, and none that was blank is spoiled
      pub kept : IsTrue w.tells → KeepsPages (w.reads (medium_of s)) (w.reads (medium_of new))
      pub clean : IsTrue w.tells → StaysClean (w.reads (medium_of s)) (w.reads (medium_of new))
      pub grows : IsTrue w.tells → Grows (w.reads (medium_of s)) (w.reads (medium_of new))
      pub later : w.faults (medium_of s) ≤ w.faults (medium_of new)

    -- why the member can't go on; of a full medium a crash leaves what it reads, among others
    abbrev pub IsFallenFor : DownCause → Store M g → List Effect → M → Type 0
    IsFallenFor down.Medium s effects new = RoseBy 2 (w.faults (medium_of s)) (w.faults new)
    IsFallenFor (down.Damaged page) s effects new = IsTrue w.tells → ⊥
    IsFallenFor (down.Full pages) s effects new = (new ≡ medium_of s) × (pages ≡ w.page_count new) × (IsTrue w.tells → count_by is_blank (w.reads new) < length (filling effects))
        × (IsTrue w.tells → w.may_leave new (w.reads new))

    -- the log with the first of the effects is left
    pub record IsGone (s : Store M g) (effects : List Effect) (new : M) : Type 0 where
      pub left : IsTrue w.tells → LeavesPrefix new (effects_in w.reads s) effects
      pub later : w.faults (medium_of s) ≤ w.faults new

    -- the log with some first ones of the effects is left
    pub record IsSafe (s : Store M g) (effects : List Effect) (new : M) : Type 0 where
      pub left : IsTrue w.tells → LeavesFront new (effects_in w.reads s) effects
      pub later : w.faults (medium_of s) ≤ w.faults new

    abbrev pub ClosedAs : Store M g → List Effect → Closed M g → Type 0
    ClosedAs s effects (Durable new) = IsDurable s new effects
    ClosedAs s effects (Reopened new found) = IsCrashed s new effects found.items
    ClosedAs s effects (Fallen new cause) = IsFallenFor cause s effects new × IsGone s effects new
    ClosedAs s effects (Wanting new) = IsGone s effects new
