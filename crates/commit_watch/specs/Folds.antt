-- What a rule makes of an object's stable versions. A list of marks stands newest first.
use Rattle.std.specs.Prelude.{Bool, true, false, List, [], ◌∷◌, map, filter, Option, Some, None, Result, Ok, Err, ◌&&◌}
use Rattle.pseudo_time.specs.TimeParts.{TimeParts}
use Rattle.pseudo_time.specs.Order.{lt}
use Rattle.value_form.specs.declared.objects.ObjectId.{ObjectId}
use Rattle.object_history.specs.declared.marks.Mark.{Mark}
use Rattle.object_history.specs.History.{Seen, floor_of}
use Rattle.object_history.specs.Answers.{some_put}
use Rattle.object_history.specs.Kept.{is_past, is_below}
use Rattle.object_history.specs.Settled.{settled_versions}
use Rattle.commit_watch.specs.declared.versions.Version.{Version}
use Rattle.commit_watch.specs.declared.moved.Moved.{Moved}
use Rattle.commit_watch.specs.declared.faults.WatchFault.{WatchFault}
use Rattle.commit_watch.specs.declared.faults.WatchFault.TheVariants as fault
use Rattle.commit_watch.specs.Lists.{cursor_of, total_of}

abbrev pub version_of : ObjectId → Seen → Version
version_of o q = record { object = o; start = q.start; value = q.value }

-- the versions that a watch folds next: of those that nothing can change any more, the ones above the cursor and below the end, in rising start
abbrev pub fresh : List Mark → ObjectId → Option TimeParts → Option TimeParts → List Version
fresh m o cursor below = map (version_of o) (filter (λ q. is_past cursor q.start && is_below below q.start) (settled_versions m o))

-- below the floor, where there is one
abbrev pub is_under : Option TimeParts → TimeParts → Bool
is_under None x = false
is_under (Some e) x = lt x e

-- a version above the cursor lies below the floor: what stood beside it may have been given up
abbrev pub is_retired : List Mark → ObjectId → Option TimeParts → Bool
is_retired m o cursor = some_put (λ x. is_under (floor_of m) x && is_past cursor x) o m

abbrev pub and_then : {A B E : Type 0} → Result A E → (A → Result B E) → Result B E
and_then (Ok a) f = f a
and_then (Err e) f = Err e

abbrev pub unless_retired : {A : Type 0} → Bool → ObjectId → Option TimeParts → Result A WatchFault → Result A WatchFault
unless_retired false o floor r = r
unless_retired true o None r = r
unless_retired true o (Some e) r = Err (fault.Retired o e)

module _ {T : Type 0} (first : T) (next : T → Version → Option T) (o : ObjectId) where
  -- the object once it has this total at this version; or there is none
  abbrev pub moved_to : Version → Option T → Result (Option (Moved T)) WatchFault
  moved_to v None = Err (fault.Overflow o v.start)
  moved_to v (Some t) = Ok (Some (record { object = o; cursor = v.start; total = t }))

  -- the object after these versions, in their order
  unfoldable pub moved_over : Option (Moved T) → List Version → Result (Option (Moved T)) WatchFault
  moved_over w [] = Ok w
  moved_over w (v ∷ vs) = and_then (moved_to v (next (total_of first w) v)) (λ u. moved_over u vs)

  -- the object once a watch advanced over the marks, or why it may not
  abbrev pub advanced : List Mark → Option TimeParts → Option (Moved T) → Result (Option (Moved T)) WatchFault
  advanced m below w = unless_retired (is_retired m o (cursor_of w)) o (floor_of m) (moved_over w (fresh m o (cursor_of w) below))
