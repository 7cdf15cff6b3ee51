-- Maps of objects, one over another.
use Rattle.std.specs.Prelude.{List, [], ◌∷◌}
use Rattle.std.specs.FinMap as finite
use Rattle.value_form.specs.declared.objects.ObjectId.{ObjectId}
use Rattle.value_form.specs.declared.values.Value.{Value}
use Rattle.value_form.specs.Objects.{Objects}

-- these entries over a map; of two for an object the first counts
abbrev pub onto : Objects → List (ObjectId × Value) → Objects
onto m [] = m
onto m (e ∷ es) = finite.insert (onto m es) e.0 e.1

-- a map over another
abbrev pub overlaid : Objects → Objects → Objects
overlaid writes m = onto m (finite.entries writes)
