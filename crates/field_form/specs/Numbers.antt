-- Numbers, the highest byte first.
use Rattle.std.specs.Prelude.{ℕ, ℤ, List, [], ◌∷◌, length, take, drop, Option, Some, None, nat_lt, ◌||◌, if◌then◌else◌}
use Rattle.std.specs.Int.{Width, w64, byte_len, from_be_bytes, cast_signed}
use Rattle.field_form.specs.Forms.{◌>>=◌}

-- the first byte, and what follows it
abbrev pub byte_at : List ℕ → Option (ℕ × List ℕ)
byte_at [] = None
byte_at (b ∷ rest) = Some (b, rest)

-- the number in the first bytes, and what follows them
abbrev pub number_at : Width → List ℕ → Option (ℕ × List ℕ)
number_at w bytes = if nat_lt (length bytes) (byte_len w) then None else Some (from_be_bytes w (take (byte_len w) bytes), drop (byte_len w) bytes)

-- a signed number in two's complement
unfoldable pub signed_at : List ℕ → Option (ℤ × List ℕ)
signed_at bytes = do
  n ← number_at w64 bytes
  Some (cast_signed w64 n.0, n.1)

-- so many bytes
abbrev pub front_at : ℕ → List ℕ → Option (List ℕ × List ℕ)
front_at count bytes = if nat_lt (length bytes) count then None else Some (take count bytes, drop count bytes)

-- a number in these limits
abbrev pub between : ℕ → ℕ → Option (ℕ × List ℕ) → Option (ℕ × List ℕ)
between least most found = found >>= λ n. if nat_lt n.0 least || nat_lt most n.0 then None else Some n
