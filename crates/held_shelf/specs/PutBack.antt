-- A medium that is put back on a shelf.
use Rattle.std.specs.Prelude.{◌≡◌, ◌≢◌, ◌↔◌, ◌≤◌, IsTrue}
use Rattle.stream_port.specs.Causes.{Rose}
use Rattle.medium_port.specs.Image.{NoMore}
use Rattle.medium_port.specs.Names.{IsJustSo}
use Rattle.medium_port.specs.declared.media.Medium as medium
use Rattle.medium_port.specs.declared.shelves.MediumName.{MediumName}
use Rattle.medium_port.specs.declared.shelves.Shelf as shelf

module _ {S M : Type 0} (g : shelf.Ghosts S M) (w : medium.Ghosts M) where
  -- the shelf has under this name what it had
  pub record Keeps (old new : S) (name : MediumName) : Type 0 where
    pub taken : g.is_taken new name ↔ g.is_taken old name
    pub count : g.medium_faults new name ≡ g.medium_faults old name
    pub content : IsTrue w.tells → IsJustSo (g.holds old name) (g.holds new name) (g.may_hold old name) (g.may_hold new name)

  -- it has all that it had, and nobody asked for anything
  pub record IsAsBefore (old new : S) : Type 0 where
    pub all : (name : MediumName) → Keeps old new name
    pub asked : g.asked new ≡ g.asked old
    pub later : g.faults old ≤ g.faults new

  -- The medium is under its name: reopened, so that its reads give one of the images that a crash could have left of it, and no image is new. Or the name is out, since it couldn't be
  -- reopened, and the shelf's count rose. All other names have what they had.
  pub record IsPutBack (name : MediumName) (m : M) (old new : S) : Type 0 where
    pub out : g.is_taken new name → Rose (g.faults old) (g.faults new)
    pub one : IsTrue w.tells → (g.is_taken new name → ⊥) → w.may_leave m (g.holds new name)
    pub no_more : IsTrue w.tells → (g.is_taken new name → ⊥) → NoMore (w.may_leave m) (g.may_hold new name)
    pub counted : (g.is_taken new name → ⊥) → w.faults m ≤ g.medium_faults new name
    pub others : (other : MediumName) → other ≢ name → Keeps old new other
    pub asked : g.asked new ≡ g.asked old
    pub later : g.faults old ≤ g.faults new
