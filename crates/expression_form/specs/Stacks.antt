-- Stacks, as lists from the top.
use Rattle.std.specs.Prelude.{List, [], ◌∷◌, Option, Some, None}

abbrev pub first : {A : Type 0} → List A → Option A
first [] = None
first (x ∷ st) = Some x
