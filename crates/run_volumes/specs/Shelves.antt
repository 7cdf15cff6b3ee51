-- Media as a shelf gives them, and the names of a node's.
use Rattle.std.specs.Prelude.{◌≡◌, ◌≢◌, ◌↔◌, ℕ, ◌≤◌, zero, suc, Bool, true, false, IsTrue, List, [], ◌∷◌, ◌++◌, slice_get, Option, Some, None}
use Rattle.std.specs.List.{AllZip, count_by}
use Rattle.pseudo_time.specs.Lists.{Has}
use Rattle.pseudo_time.specs.declared.nodes.NodeId.{NodeId}
use Rattle.stream_port.specs.Causes.{Rose, RoseBy}
use Rattle.medium_port.specs.Image.{Image}
use Rattle.medium_port.specs.Names.{IsJustSo}
use Rattle.medium_port.specs.declared.shelves.MediumName.{MediumName}
use Rattle.medium_port.specs.declared.shelves.Shelf.{Ghosts}
use Rattle.run_media.specs.Media.{Media}

-- of a shelf: what its media hold, what a crash may leave of them, how often each has failed, which were taken, which names were asked for, in order, and how
-- often a taking has failed
pub record ShelfSight : Type 1 where
  pub holds : MediumName → Image
  pub may_hold : MediumName → Image → Type 0
  pub medium_faults : MediumName → ℕ
  pub is_taken : MediumName → Type 0
  pub asked : List MediumName
  pub faults : ℕ

-- by what the members of the trait say of it
abbrev pub shelf_sight : {S M : Type 0} → Ghosts S M → S → ShelfSight
shelf_sight g s = record { holds = g.holds s; may_hold = g.may_hold s; medium_faults = g.medium_faults s; is_taken = g.is_taken s; asked = g.asked s; faults = g.faults s }

-- the name of a node's volume
abbrev pub volume_name : NodeId → ℕ → MediumName
volume_name n v = record { kind = n.kind; number = n.number; volume = v }

-- the names of so many of a node's volumes, from 0 on
abbrev pub first_names : NodeId → ℕ → List MediumName
first_names n zero = []
first_names n (suc v) = first_names n v ++ volume_name n v ∷ []

-- the shelf has under this name what it had
pub record IsLeft (tells : Bool) (old new : ShelfSight) (name : MediumName) : Type 0 where
  pub taken : new.is_taken name ↔ old.is_taken name
  pub count : new.medium_faults name ≡ old.medium_faults name
  pub content : IsTrue tells → IsJustSo (old.holds name) (new.holds name) (old.may_hold name) (new.may_hold name)

abbrev pub is_missing : {M : Type 0} → Option M → Bool
is_missing None = true
is_missing (Some m) = false

module _ {M : Type 0} (w : Media M) (old : ShelfSight) where
  -- the medium of this name, just as it stood on the shelf
  pub record IsTaken (name : MediumName) (m : M) : Type 0 where
    pub content : IsTrue w.tells → IsJustSo (old.holds name) (w.reads m) (old.may_hold name) (w.may_leave m)
    pub count : w.faults m ≡ old.medium_faults name
    pub sound : w.is_failed m ≡ false
    pub first : old.is_taken name → ⊥

  -- the medium of this name was taken, and nothing else; or the shelf failed
  abbrev pub Gives : ShelfSight → MediumName → Option M → Type 0
  Gives new name None = ((other : MediumName) → IsLeft w.tells old new other) × Rose old.faults new.faults
  Gives new name (Some m) = IsTaken name m × ((other : MediumName) → other ≢ name → IsLeft w.tells old new other) × (old.faults ≤ new.faults)

  -- the shelf was asked once, for the medium of this name
  pub record TakesOne (new : ShelfSight) (name : MediumName) (m : Option M) : Type 0 where
    pub asked : new.asked ≡ old.asked ++ name ∷ []
    pub gives : Gives new name m

  -- the medium of this name, just as it stood on the shelf; None where the shelf gave none
  abbrev pub IsGiven : MediumName → Option M → Type 0
  IsGiven name None = Unit {0}
  IsGiven name (Some m) = IsTaken name m

-- The media of these names were asked for, in this order, and no others were taken. The shelf failed for each that it didn't give.
pub record WereTaken {M : Type 0} (w : Media M) (old new : ShelfSight) (names : List MediumName) (media : List (Option M)) : Type 0 where
  pub asked : new.asked ≡ old.asked ++ names
  pub are : AllZip (IsGiven w old) names media
  pub missing : RoseBy (count_by is_missing media) old.faults new.faults
  pub back : (name : MediumName) → new.is_taken name → (old.is_taken name → ⊥) → (place : ℕ) × (m : M) × (slice_get names place ≡ Some name) × (slice_get media place ≡ Some (Some m))
  pub others : (name : MediumName) → (Has name names → ⊥) → IsLeft w.tells old new name
