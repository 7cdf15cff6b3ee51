-- All versions that ever stood in a history or in one of its older ones, each object and start once.
use Rattle.std.specs.Prelude.{Bool, true, false, List, [], ◌∷◌, ◌&&◌, ◌||◌, if◌then◌else◌}
use Rattle.pseudo_time.specs.TimeParts.{TimeParts}
use Rattle.pseudo_time.specs.Order.{same_time}
use Rattle.value_form.specs.declared.objects.ObjectId.{ObjectId}
use Rattle.object_history.specs.declared.marks.Mark.{Mark}
use Rattle.object_history.specs.declared.marks.Mark.TheVariants.{Put, Stretch, Settle, Floor}
use Rattle.object_history.specs.Objects.{same_object}

-- a version of the object with this start stands among the marks
unfoldable pub has_start : ObjectId → TimeParts → List Mark → Bool
has_start o x [] = false
has_start o x (Put a y v ∷ m) = (same_object a o && same_time y x) || has_start o x m
has_start o x (Stretch a y ∷ m) = has_start o x m
has_start o x (Settle s c ∷ m) = has_start o x m
has_start o x (Floor z ∷ m) = has_start o x m

-- these marks, with the versions of another history whose object and start they don't have
unfoldable pub with_old : List Mark → List Mark → List Mark
with_old met [] = met
with_old met (Put o x v ∷ m) = if has_start o x (with_old met m) then with_old met m else Put o x v ∷ with_old met m
with_old met (Stretch o x ∷ m) = with_old met m
with_old met (Settle s c ∷ m) = with_old met m
with_old met (Floor z ∷ m) = with_old met m

-- the marks of the last history, with the versions of the older ones
abbrev pub all_stood : List (List Mark) → List Mark → List Mark
all_stood [] m = m
all_stood (old ∷ olds) m = with_old (all_stood olds m) old
