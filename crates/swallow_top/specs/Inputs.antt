-- What is said of an input that the source may not tell.
use Rattle.std.specs.Prelude.{ℕ, List, Option, Some, None}

-- P holds of the input, or of some bytes where it isn't told
abbrev pub OfInput : Option (List ℕ) → (List ℕ → Type 0) → Type 0
OfInput None P = (bytes : List ℕ) × P bytes
OfInput (Some input) P = P input
