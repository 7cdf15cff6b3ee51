-- What a medium in memory is.
use Rattle.std.specs.Prelude.{◌≡◌, ◌⊎◌, ℕ, Bool, List, Option, Some, Result, is_some, IsTrue, IsErr, OnOk, OnErr, MatchOption}
use Rattle.std.specs.Option.{option_map}
use Rattle.stream_port.specs.Causes.{Rose, next_count}
use Rattle.medium_port.specs.Image.{Image}
use Rattle.medium_port.specs.Disk.{Span}
use Rattle.medium_port.specs.Moment.{Stage}
use Rattle.medium_port.specs.Pasts.{events_in, unsynced_in, stages_in, left_now, IsWrittenTo, IsAsBefore}
use Rattle.medium_port.specs.Stops.{first_met, without_met}
use Rattle.medium_port.specs.declared.events.Event.{Event}
use Rattle.medium_port.specs.declared.stops.Stop.{Stop}
use Rattle.medium_port.specs.declared.memory_media.MemoryMedium.{MemoryMedium}

-- the number of its pages
abbrev pub pages_of : MemoryMedium → ℕ
pages_of m = m.past.count

-- what reads give
abbrev pub reads_of : MemoryMedium → Image
reads_of m = m.past.held.items

-- what a crash may leave now
abbrev pub leaves : MemoryMedium → Image → Type 0
leaves m = left_now m.past

-- it at each moment, the last one first
abbrev pub stages_of : MemoryMedium → List Stage
stages_of m = stages_in m.past

-- its writes, syncs and reopenings
abbrev pub events_of : MemoryMedium → List Event
events_of m = events_in m.past

-- what was written since the last sync
abbrev pub unsynced_of : MemoryMedium → List Span
unsynced_of m = unsynced_in m.past

-- the stops that are still to come
abbrev pub stops_of : MemoryMedium → List Stop
stops_of m = m.stops.items

-- how many calls there were
abbrev pub calls_of : MemoryMedium → ℕ
calls_of m = m.calls

-- the stop whose damage the next reopening shows
abbrev pub pending_of : MemoryMedium → Option Stop
pending_of m = m.met

abbrev pub failed_in : MemoryMedium → Bool
failed_in m = m.health.failed

abbrev pub faults_in : MemoryMedium → ℕ
faults_in m = m.health.faults

-- the page that its last read with Ok gave
abbrev pub last_of : MemoryMedium → Option (ℕ × List ℕ)
last_of m = option_map (λ p. (p.0, p.1.value)) m.last

-- how many calls failed because memory ran out
abbrev pub starved_of : MemoryMedium → ℕ
starved_of m = m.starved

-- the stop that its next call meets, which writes to this page and place, or doesn't write
abbrev pub next_stop : Option (ℕ × ℕ) → MemoryMedium → Option Stop
next_stop write m = first_met (next_count m.calls) write m.stops.items

-- a call fails exactly where it meets a stop or memory runs out, and each stop is used once
pub record MeetsStops {T E : Type 0} (write : Option (ℕ × ℕ)) (old new : MemoryMedium) (result : Result T E) : Type 0 where
  pub stopped : IsTrue (is_some (next_stop write old)) → IsErr result
  pub failed : IsErr result → IsTrue (is_some (next_stop write old)) ⊎ Rose (starved_of old) (starved_of new)
  pub fed : OnOk result (starved_of new ≡ starved_of old)
  pub used : stops_of new ≡ without_met (next_count (calls_of old)) write (stops_of old)
  -- the stop that it met is the one that the next reopening shows
  pub waits : MatchOption (next_stop write old) (OnErr result (pending_of new ≡ pending_of old)) (λ stop. pending_of new ≡ Some stop)
  pub counted : calls_of new ≡ next_count (calls_of old)

-- the write was made, or the call failed because memory ran out and all is as before
abbrev pub Writes : {T E : Type 0} → ℕ → ℕ → List ℕ → MemoryMedium → MemoryMedium → Result T E → Type 0
Writes page at bytes old new result = IsWrittenTo page at bytes old.past new.past ⊎ (IsErr result × Rose (starved_of old) (starved_of new) × IsAsBefore old.past new.past)
