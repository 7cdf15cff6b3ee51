-- What the code keeps of the puts that were met.
use Rattle.std.specs.Prelude.{◌≡◌, List, is_some}
use Rattle.std.specs.Ordering.{ordering_then}
use Rattle.std.specs.declared.cmp.Ordering.{Ordering}
use Rattle.std.specs.BTreeMap.{get}
use Rattle.pseudo_time.specs.TimeParts.{TimeParts, time_cmp}
use Rattle.value_form.specs.declared.objects.ObjectId.{ObjectId}
use Rattle.value_form.specs.Objects.{object_cmp}
use Rattle.object_history.specs.declared.marks.Mark.{Mark}
use Rattle.archive_store.specs.declared.starts.Start.{Start}
use Rattle.archive_store.specs.declared.starts.Met.{Met}
use Rattle.archive_store.specs.Joined.{has_start}

-- by object, then start
abbrev pub start_cmp : Start → Start → Ordering
start_cmp a b = ordering_then (object_cmp a.object b.object) (time_cmp a.start b.start)

-- it has the objects and starts of these puts
abbrev pub Meets : Met → List Mark → Type 0
Meets met m = (o : ObjectId) (x : TimeParts) → is_some (get start_cmp met.entries (record { object = o; start = x })) ≡ has_start o x m
