-- Media, and what is handed back of them.
use Rattle.std.specs.Prelude.{◌≡◌, false, IsTrue, List, Option, Some, None}
use Rattle.medium_port.specs.Image.{NoMore}
use Rattle.medium_port.specs.declared.media.Medium.{Ghosts}
use Rattle.std.specs.List.{AllZip}

-- what a type of media means by its members: the record that a clause calls `M.Medium`
abbrev pub Media : Type 0 → Type 1
Media M = Ghosts M

-- the medium hasn't failed, unless it is missing
abbrev pub IsUsable : {M : Type 0} → Media M → Option M → Type 0
IsUsable w None = Unit {0}
IsUsable w (Some m) = w.is_failed m ≡ false

-- ---- what is handed back

-- a medium for a medium
abbrev pub IsBack : {M : Type 0} → Option M → Option M → Type 0
IsBack None None = Unit {0}
IsBack None (Some new) = ⊥
IsBack (Some old) None = ⊥
IsBack (Some old) (Some new) = Unit {0}

-- each that was handed in, in its place
abbrev pub AreBack : {M : Type 0} → List (Option M) → List (Option M) → Type 0
AreBack old new = AllZip IsBack old new

module _ {M : Type 0} (w : Media M) where
  -- a crash leaves no image that it couldn't have left before
  abbrev pub IsUntouched : M → M → Type 0
  IsUntouched old new = IsTrue w.tells → NoMore (w.may_leave old) (w.may_leave new)

  -- a medium in its place that wasn't written to, or none where none was
  abbrev pub IsLeftAlone : Option M → Option M → Type 0
  IsLeftAlone None None = Unit {0}
  IsLeftAlone None (Some new) = ⊥
  IsLeftAlone (Some old) None = ⊥
  IsLeftAlone (Some old) (Some new) = IsUntouched old new
