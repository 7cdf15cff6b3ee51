-- What a shelf over memory has.
use Rattle.std.specs.Prelude.{◌≡◌, ℕ, List, Option, replicate}
use Rattle.medium_port.specs.AskedNames.{names_of}
use Rattle.medium_port.specs.Image.{Image}
use Rattle.medium_port.specs.Slots.{slot_of, NowHas, IsTaken, image_there, left_there, faults_there}
use Rattle.medium_port.specs.declared.shelves.MediumName.{MediumName}
use Rattle.medium_port.specs.declared.memory_media.MemoryMedium.{MemoryMedium}
use Rattle.medium_port.specs.declared.memory_shelves.MemoryShelf.{MemoryShelf}

-- what stands under a name: None where nothing was put there or taken, Some None where it was taken
abbrev pub under : MemoryShelf → MediumName → Option (Option MemoryMedium)
under s name = slot_of s.slots.items name

abbrev pub TakenFrom : MemoryShelf → MediumName → Type 0
TakenFrom s name = IsTaken (under s name)

-- the pages of a blank medium
abbrev pub blank_pages_of : MemoryShelf → Image
blank_pages_of s = replicate s.pages s.zero

-- what reads of the medium under a name give, and what a crash may leave of it
abbrev pub image_under : MemoryShelf → MediumName → Image
image_under s name = image_there (blank_pages_of s) (under s name)

abbrev pub LeftUnder : MemoryShelf → MediumName → Image → Type 0
LeftUnder s name = left_there (blank_pages_of s) (under s name)

abbrev pub faults_under : MemoryShelf → MediumName → ℕ
faults_under s name = faults_there (under s name)

-- the names whose takings are to fail
abbrev pub failing : MemoryShelf → List MediumName
failing s = s.fails.items

-- the names that were asked for
abbrev pub asked_for : MemoryShelf → List MediumName
asked_for s = names_of s.asked

-- the pages that a blank medium gets
abbrev pub new_pages : MemoryShelf → ℕ
new_pages s = s.pages

abbrev pub shelf_faults : MemoryShelf → ℕ
shelf_faults s = s.faults

-- how many takings failed because memory ran out
abbrev pub shelf_starved : MemoryShelf → ℕ
shelf_starved s = s.starved

-- this name now has this, and all others are as they were
abbrev pub NowUnder : MediumName → Option MemoryMedium → MemoryShelf → MemoryShelf → Type 0
NowUnder name held old new = NowHas name held old.slots.items new.slots.items

-- what stands under names is as it was
abbrev pub SameUnder : MemoryShelf → MemoryShelf → Type 0
SameUnder old new = new.slots.items ≡ old.slots.items

-- and so are the counts, the size of new media, and what was asked for
pub record SameCounts (old new : MemoryShelf) : Type 0 where
  pub pages : new.pages ≡ old.pages
  pub faults : new.faults ≡ old.faults
  pub starved : new.starved ≡ old.starved
  pub asked : asked_for new ≡ asked_for old
