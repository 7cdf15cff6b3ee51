-- The lines of a text.
use Rattle.std.specs.Str.Lines.{strip_carriage_return}
use Rattle.std.specs.Prelude.{ℕ, Bool, true, ◌==◌, List, [], ◌∷◌, ◌++◌, if◌then◌else◌}

-- the last line may lack its end
abbrev pub last_line : List ℕ → List (List ℕ)
last_line [] = []
last_line (b ∷ bs) = (b ∷ bs) ∷ []

-- the lines, where these bytes of the first stand before; one 0D directly before a line's 0A is dropped
abbrev pub lines_from : List ℕ → List ℕ → List (List ℕ)
lines_from before [] = last_line before
lines_from before (b ∷ bs) = if b == 10 then strip_carriage_return before ∷ lines_from [] bs else lines_from (before ++ b ∷ []) bs

abbrev pub lines : List ℕ → List (List ℕ)
lines bytes = lines_from [] bytes

-- no statement: spaces alone, or spaces and then `#`
abbrev pub is_blank : List ℕ → Bool
is_blank [] = true
is_blank (b ∷ bs) = if b == 32 then is_blank bs else b == 35
