-- The media of a run in the laboratory.
use Rattle.std.specs.Prelude.{◌≡◌, ◌≢◌, ℕ, false, ◌==◌, List, [], ◌∷◌, Some, None, if◌then◌else◌}
use Rattle.pseudo_time.specs.declared.nodes.NodeKind.TheVariants.{Repository}
use Rattle.medium_port.specs.Image.{IsImage, IsBlankImage, Only}
use Rattle.medium_port.specs.MemoryMedia.{pages_of, reads_of, leaves, stops_of, calls_of, faults_in, failed_in}
use Rattle.medium_port.specs.MemoryShelves.{NowUnder, SameCounts, asked_for, under, failing, new_pages, shelf_faults}
use Rattle.medium_port.specs.declared.shelves.MediumName.{MediumName}
use Rattle.medium_port.specs.declared.memory_media.MemoryMedium.{MemoryMedium}
use Rattle.medium_port.specs.declared.memory_shelves.MemoryShelf.{MemoryShelf}
use Rattle.medium_port.specs.declared.stops.Stop.{Stop}
use Rattle.medium_port.specs.declared.stops.StopAt.TheVariants.{Write}
use Rattle.laboratory.specs.declared.options.Lab.{Lab}

-- the stop where the gate of a page is written: nothing of it is kept, and it stays closed
abbrev pub gate_stop : ℕ → Stop
gate_stop page = record { at = Write page 0; keep = 0; fill = 0 }

-- 0 is no stop
abbrev pub stops_at : ℕ → List Stop
stops_at page = if page == 0 then [] else gate_stop page ∷ []

-- a blank medium of so many pages, which no call has met, with these stops to come
pub record IsFresh (pages : ℕ) (stops : List Stop) (m : MemoryMedium) : Type 0 where
  pub count : pages_of m ≡ pages
  pub shape : IsImage pages (reads_of m)
  pub blank : IsBlankImage (reads_of m)
  pub only : Only (reads_of m) (leaves m)
  pub stops_are : stops_of m ≡ stops
  pub calls : calls_of m ≡ 0
  pub faults : faults_in m ≡ 0
  pub sound : failed_in m ≡ false

-- the medium with which the first repository runs, and that on which it votes
abbrev pub first_name : MediumName
first_name = record { kind = Repository; number = 1; volume = 0 }

abbrev pub voting_name : MediumName
voting_name = record { kind = Repository; number = 1; volume = 1010 }

-- the second shelf is the first with this medium more, a volume of the first repository
pub record HasPut (old new : MemoryShelf) (volume : ℕ) (m : MemoryMedium) : Type 0 where
  pub now : NowUnder (record { kind = Repository; number = 1; volume = volume }) (Some m) old new
  pub fails : failing new ≡ failing old
  pub counts : SameCounts old new

-- a fresh medium of the laboratory with its stop stands under this name
abbrev pub HasFresh : Lab → MemoryShelf → MediumName → Type 0
HasFresh lab s name = (m : MemoryMedium) × (under s name ≡ Some (Some m)) × IsFresh lab.pages (stops_at lab.stop) m

-- Each medium is blank and has so many pages, those two of the first repository stop as was said, and none was asked for. No taking has failed or is to fail.
pub record IsLabShelf (lab : Lab) (s : MemoryShelf) : Type 0 where
  pub first : HasFresh lab s first_name
  pub voting : HasFresh lab s voting_name
  -- nothing was put under any other name, so that a blank medium is made for it
  pub others : (name : MediumName) → name ≢ first_name → name ≢ voting_name → under s name ≡ None
  pub size : new_pages s ≡ lab.pages
  pub unasked : asked_for s ≡ []
  pub well : failing s ≡ []
  pub faults : shelf_faults s ≡ 0
