-- Maps of objects to values.
use Rattle.std.specs.Prelude.{unwrap_or}
use Rattle.std.specs.Ordering.{nat_cmp, ordering_then}
use Rattle.std.specs.declared.cmp.Ordering.{Ordering}
use Rattle.std.specs.FinMap as map
use Rattle.value_form.specs.declared.objects.ObjectId.{ObjectId}
use Rattle.value_form.specs.declared.values.Value.{Value}
use Rattle.value_form.specs.declared.values.Value.TheVariants.{Nothing}

-- by repository, then number
abbrev pub object_cmp : ObjectId → ObjectId → Ordering
object_cmp a b = ordering_then (nat_cmp a.repository b.repository) (nat_cmp a.number b.number)

-- a finite map from objects to values
abbrev pub Objects : Type 0
Objects = map.FinMap object_cmp Value

-- an object outside the map has the value Nothing
abbrev pub value_at : Objects → ObjectId → Value
value_at objects object = unwrap_or (map.get objects object) Nothing
