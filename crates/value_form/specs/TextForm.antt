-- How the bytes of a text are printed.
use Rattle.std.specs.Prelude.{ℕ, ◌+◌, ◌-◌, ◌/◌, ◌%◌, ◌==◌, List, [], ◌∷◌, ◌++◌, nat_lt, if◌then◌else◌}
use Rattle.std.specs.Int.{is_in_range}
use Rattle.std.specs.List.{flat_map}

-- `0` to `9`, then `a` to `f`
abbrev pub hex_digit_of : ℕ → ℕ
hex_digit_of d = if nat_lt d 10 then 48 + d else 97 + (d - 10)

-- a quote, a backslash and a line's end come after a backslash; another byte that isn't printable is `\x` and two digits
abbrev pub byte_text : ℕ → List ℕ
byte_text b = if b == 34 then 92 ∷ 34 ∷ [] else if b == 92 then 92 ∷ 92 ∷ [] else if b == 10 then 92 ∷ 110 ∷ [] else if is_in_range 32 126 b then b ∷ [] else 92 ∷ 120 ∷ hex_digit_of (b / 16) ∷ hex_digit_of (b % 16) ∷ []

-- between double quotes
abbrev pub quoted_text : List ℕ → List ℕ
quoted_text bytes = 34 ∷ flat_map byte_text bytes ++ 34 ∷ []
