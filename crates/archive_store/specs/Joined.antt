-- What the logs of a repository's volumes say together. Logs stand in the order of the volumes, and the marks of each oldest first.
use Rattle.std.specs.Prelude.{ℕ, ◌+◌, Bool, true, false, List, [], ◌∷◌, ◌++◌, reverse, filter, Option, Some, None, ◌&&◌, ◌||◌, not, if◌then◌else◌}
use Rattle.pseudo_time.specs.TimeParts.{TimeParts}
use Rattle.pseudo_time.specs.Order.{same_time}
use Rattle.value_form.specs.declared.objects.ObjectId.{ObjectId}
use Rattle.object_history.specs.declared.marks.Mark.{Mark}
use Rattle.object_history.specs.declared.marks.Mark.TheVariants.{Put, Stretch, Settle, Floor}
use Rattle.object_history.specs.Objects.{same_object}
use Rattle.object_history.specs.History.{at_put, floor_of}
use Rattle.commit_watch.specs.Folds.{is_under}

-- a put of the object with this start stands among these marks
unfoldable pub has_start : ObjectId → TimeParts → List Mark → Bool
has_start o x [] = false
has_start o x (f ∷ m) = at_put (λ a y v below. (same_object a o && same_time y x) || below) f (has_start o x m)

-- the mark is a put below the floor, and none of its object and start was met
abbrev pub is_new : Option TimeParts → List Mark → Mark → Bool
is_new floor met f = at_put (λ o x v below. is_under floor x && not (has_start o x met)) f false

-- the puts below the floor, each object and start once: the first that stands, where none was met before
unfoldable pub firsts : Option TimeParts → List Mark → List Mark → List Mark
firsts floor met [] = []
firsts floor met (f ∷ fs) = if is_new floor met f then f ∷ firsts floor (f ∷ met) fs else firsts floor met fs

-- what was met then
unfoldable pub met_after : Option TimeParts → List Mark → List Mark → List Mark
met_after floor met [] = met
met_after floor met (f ∷ fs) = if is_new floor met f then met_after floor (f ∷ met) fs else met_after floor met fs

-- those of several logs, one after another
unfoldable pub all_firsts : Option TimeParts → List Mark → List (List Mark) → List Mark
all_firsts floor met [] = []
all_firsts floor met (log ∷ logs) = firsts floor met log ++ all_firsts floor (met_after floor met log) logs

abbrev pub is_floor : Mark → Bool
is_floor (Put o x v) = false
is_floor (Stretch o x) = false
is_floor (Settle s c) = false
is_floor (Floor x) = true

-- what the log of the last volume gave up: of all logs, each object and start below its floor that it hasn't itself
abbrev pub given_up : List (List Mark) → List Mark → List Mark
given_up logs last = all_firsts (floor_of (reverse last)) (reverse last) logs

-- what was given up, then the last log without its floors
abbrev pub joined_with : List (List Mark) → List Mark → List Mark
joined_with logs last = given_up logs last ++ filter (λ f. not (is_floor f)) last

unfoldable pub last_log : List (List Mark) → List Mark
last_log [] = []
last_log (log ∷ []) = log
last_log (log ∷ next ∷ logs) = last_log (next ∷ logs)

abbrev pub joined : List (List Mark) → List Mark
joined logs = joined_with logs (last_log logs)

-- a later place, where there is one
abbrev pub later : Bool → Option ℕ → Option ℕ
later here None = if here then Some 0 else None
later here (Some n) = Some (n + 1)

-- the place of the last log that has a put of the object with this start
unfoldable pub holder_of : ObjectId → TimeParts → List (List Mark) → Option ℕ
holder_of o x [] = None
holder_of o x (log ∷ logs) = later (has_start o x log) (holder_of o x logs)
