-- The names of a script and their values.
use Rattle.std.specs.Prelude.{ℕ, List, [], ◌∷◌, ◌==◌, if◌then◌else◌}
use Rattle.std.specs.Cmp.Lexicographic.{pointwise}
use Rattle.value_form.specs.declared.values.Value.{Value}
use Rattle.value_form.specs.declared.values.Value.TheVariants.{Nothing}

-- a name that was set, with its value
abbrev pub SetName : Type 0
SetName = List ℕ × Value

-- each name that was set, in the order in which they were first set
abbrev pub Names : Type 0
Names = List SetName

-- a name never set is Nothing
abbrev pub name_value : Names → List ℕ → Value
name_value [] name = Nothing
name_value (entry ∷ names) name = if pointwise ◌==◌ entry.0 name then entry.1 else name_value names name

-- the names once this one has the value: in its place, or at the end
abbrev pub with_name : Names → List ℕ → Value → Names
with_name [] name value = (name, value) ∷ []
with_name (entry ∷ names) name value = if pointwise ◌==◌ entry.0 name then (name, value) ∷ names else entry ∷ with_name names name value
