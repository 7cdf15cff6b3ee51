-- What stands under a name.
use Rattle.std.specs.Prelude.{◌≡◌, ◌≢◌, ℕ, ◌<◌, Bool, true, false, ◌==◌, ◌&&◌, if◌then◌else◌, List, [], ◌∷◌, length, slice_index_or, Option, Some, None}
use Rattle.pseudo_time.specs.Nodes.{kind_number}
use Rattle.medium_port.specs.declared.shelves.MediumName.{MediumName}
use Rattle.held_shelf.specs.declared.slots.Slot.{Slot}

abbrev pub is_same_name : MediumName → MediumName → Bool
is_same_name a b = (kind_number a.kind == kind_number b.kind) && ((a.number == b.number) && (a.volume == b.volume))

-- None where nothing was put there, Some None while it is out
abbrev pub slot_of : {M : Type 0} → List (Slot M) → MediumName → Option (Option M)
slot_of [] name = None
slot_of (slot ∷ slots) name = if is_same_name slot.name name then Some slot.held else slot_of slots name

-- the first slot of this name
pub record IsPlace {M : Type 0} (slots : List (Slot M)) (name : MediumName) (i : ℕ) : Type 0 where
  pub low : i < length slots
  pub past : (k : ℕ) (d : Slot M) → k < i → is_same_name (slice_index_or slots k d).name name ≡ false
  pub here : (d : Slot M) → is_same_name (slice_index_or slots i d).name name ≡ true

-- this name now has this, and all others are as they were
pub record NowHas {M : Type 0} (name : MediumName) (held : Option M) (old new : List (Slot M)) : Type 0 where
  pub there : slot_of new name ≡ Some held
  pub others : (other : MediumName) → other ≢ name → slot_of new other ≡ slot_of old other
