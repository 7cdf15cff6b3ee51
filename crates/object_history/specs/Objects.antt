-- Whether two objects, or two values, are the same, as tests.
use Rattle.std.specs.Prelude.{Bool, true, false, ◌==◌}
use Rattle.std.specs.Ordering.{is_eq, int_eq}
use Rattle.std.specs.Cmp.Lexicographic.{pointwise}
use Rattle.value_form.specs.declared.objects.ObjectId.{ObjectId}
use Rattle.value_form.specs.declared.values.Value.{Value}
use Rattle.value_form.specs.declared.values.Value.TheVariants.{Nothing, Number, Text}
use Rattle.value_form.specs.Objects.{object_cmp}

unfoldable pub same_object : ObjectId → ObjectId → Bool
same_object a b = is_eq (object_cmp a b)

unfoldable pub same_value : Value → Value → Bool
same_value Nothing Nothing = true
same_value (Number a) (Number b) = int_eq a b
same_value (Text a) (Text b) = pointwise ◌==◌ a b
same_value Nothing (Number b) = false
same_value Nothing (Text b) = false
same_value (Number a) Nothing = false
same_value (Number a) (Text b) = false
same_value (Text a) Nothing = false
same_value (Text a) (Number b) = false
