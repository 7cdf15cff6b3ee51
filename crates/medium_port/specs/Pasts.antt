-- What the past of a medium in memory says of crashes.
use Rattle.std.specs.Prelude.{◌≡◌, ℕ, List, [], ◌∷◌, ◌++◌}
use Rattle.medium_port.specs.Image.{Image, put_bytes}
use Rattle.medium_port.specs.Disk.{Disk, Span, spans_of, happened, replay, disk_of, MayLeave, stages_on}
use Rattle.medium_port.specs.declared.events.Event.{Event}
use Rattle.medium_port.specs.declared.pasts.Past.{Past}
use Rattle.medium_port.specs.Moment.{Stage, LeavesOnly, EitherSide}

-- all that was done, in its order
abbrev pub events_in : Past → List Event
events_in past = happened past.events.items

-- the medium as it was made
abbrev pub first_disk : Past → Disk
first_disk past = disk_of past.first.value.items

-- what was written since the last sync
abbrev pub unsynced_in : Past → List Span
unsynced_in past = spans_of past.unsynced.items

-- the medium at each moment, the last one first
abbrev pub stages_in : Past → List Stage
stages_in past = stages_on past.count [] (first_disk past) (events_in past)

abbrev pub left_now : Past → Image → Type 0
left_now past c = MayLeave past.count (replay (first_disk past) (events_in past)) c

-- during a call an image stands from before it or after it
abbrev pub Grows : Past → Past → Type 0
Grows old new = LeavesOnly stages_in old new (EitherSide (left_now old) (left_now new))

-- a write was made: reads give its bytes, and they are the last that weren't synced
pub record IsWrittenTo (page at : ℕ) (bytes : List ℕ) (old new : Past) : Type 0 where
  pub reads : new.held.items ≡ put_bytes page at bytes old.held.items
  pub unsynced : unsynced_in new ≡ unsynced_in old ++ record { page = page; at = at; bytes = bytes } ∷ []

-- reads give what they gave, and the same wasn't synced
pub record IsAsBefore (old new : Past) : Type 0 where
  pub reads : new.held.items ≡ old.held.items
  pub unsynced : unsynced_in new ≡ unsynced_in old
