-- What a shelf over memory has under a name.
use Rattle.std.specs.Prelude.{◌≡◌, ◌≢◌, ℕ, ◌<◌, Bool, true, false, ⊤, ◌==◌, ◌&&◌, if◌then◌else◌, List, [], ◌∷◌, length, slice_index_or, Option, Some, None}
use Rattle.pseudo_time.specs.Nodes.{kind_number}
use Rattle.medium_port.specs.Image.{Image, IsImage, IsBlankImage, Only}
use Rattle.medium_port.specs.Pasts.{left_now}
use Rattle.medium_port.specs.declared.shelves.MediumName.{MediumName}
use Rattle.medium_port.specs.declared.memory_media.MemoryMedium.{MemoryMedium}
use Rattle.medium_port.specs.declared.slots.Slot.{Slot}

abbrev pub is_same_name : MediumName → MediumName → Bool
is_same_name a b = (kind_number a.kind == kind_number b.kind) && ((a.number == b.number) && (a.volume == b.volume))

-- None where nothing was put there or taken, Some None where it was taken
abbrev pub slot_of : List Slot → MediumName → Option (Option MemoryMedium)
slot_of [] name = None
slot_of (slot ∷ slots) name = if is_same_name slot.name name then Some slot.held else slot_of slots name

-- the first slot of this name
pub record IsPlace (slots : List Slot) (name : MediumName) (i : ℕ) : Type 0 where
  pub low : i < length slots
  pub past : (k : ℕ) (d : Slot) → k < i → is_same_name (slice_index_or slots k d).name name ≡ false
  pub here : (d : Slot) → is_same_name (slice_index_or slots i d).name name ≡ true

-- this name now has this, and all others are as they were
pub record NowHas (name : MediumName) (held : Option MemoryMedium) (old new : List Slot) : Type 0 where
  pub there : slot_of new name ≡ Some held
  pub others : (other : MediumName) → other ≢ name → slot_of new other ≡ slot_of old other

abbrev pub IsTaken : Option (Option MemoryMedium) → Type 0
IsTaken None = ⊥
IsTaken (Some None) = ⊤
IsTaken (Some (Some m)) = ⊥

-- a medium that wasn't put is made blank
abbrev pub image_there : Image → Option (Option MemoryMedium) → Image
image_there blank None = blank
image_there blank (Some None) = blank
image_there blank (Some (Some m)) = m.past.held.items

abbrev pub left_there : Image → Option (Option MemoryMedium) → Image → Type 0
left_there blank None c = c ≡ blank
left_there blank (Some None) c = c ≡ blank
left_there blank (Some (Some m)) c = left_now m.past c

abbrev pub faults_there : Option (Option MemoryMedium) → ℕ
faults_there None = 0
faults_there (Some None) = 0
faults_there (Some (Some m)) = m.health.faults

-- a medium of n pages that read 0 in every byte, also after a crash
pub record IsBlankOf (n : ℕ) (m : MemoryMedium) : Type 0 where
  pub shape : IsImage n m.past.held.items
  pub blank : IsBlankImage m.past.held.items
  pub only : Only m.past.held.items (left_now m.past)
