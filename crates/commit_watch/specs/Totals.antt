-- What a total is of.
use Rattle.std.specs.Prelude.{◌≡◌, List, map, filter, Option, Some, None, Result, Ok, not}
use Rattle.pseudo_time.specs.TimeParts.{TimeParts}
use Rattle.pseudo_time.specs.Order.{lt}
use Rattle.value_form.specs.declared.objects.ObjectId.{ObjectId}
use Rattle.object_history.specs.declared.marks.Mark.{Mark}
use Rattle.object_history.specs.Settled.{settled_versions}
use Rattle.commit_watch.specs.declared.versions.Version.{Version}
use Rattle.commit_watch.specs.declared.moved.Moved.{Moved}
use Rattle.commit_watch.specs.Folds.{version_of, moved_over}

-- the stable versions of the object up to the cursor, each once, in rising start
abbrev pub folded_so_far : List Mark → ObjectId → TimeParts → List Version
folded_so_far m o cursor = map (version_of o) (filter (λ q. not (lt cursor q.start)) (settled_versions m o))

-- the total is what the rule makes of these, from its first total on, and the cursor is the start of the last of them
abbrev pub IsTotal : {T : Type 0} → T → (T → Version → Option T) → List Mark → ObjectId → Option (Moved T) → Type 0
IsTotal first next m o None = Unit {0}
IsTotal first next m o (Some w) = moved_over first next o None (folded_so_far m o w.cursor) ≡ Ok (Some w)
