-- The bytes of a value, and of an object.
use Rattle.std.specs.Prelude.{ℕ, ◌+◌, ◌≤◌, ◌==◌, FitsSigned, List, [], ◌∷◌, ◌++◌, length, Option, Some, None, Result, Ok, Err, nat_le, if◌then◌else◌}
use Rattle.std.specs.Int.{w16, w32, w64, to_be_bytes, cast_unsigned}
use Rattle.field_form.specs.Forms.{IsBytes}
use Rattle.field_form.specs.Numbers.{byte_at, number_at, signed_at, front_at, between}
use Rattle.value_form.specs.declared.values.Value.{Value}
use Rattle.value_form.specs.declared.values.Value.TheVariants.{Nothing, Number, Text}

-- the most bytes of a text, and of one whose length takes two bytes
abbrev pub most_text : ℕ
most_text = 65536

abbrev pub most_short : ℕ
most_short = 1000

-- which values have bytes
abbrev pub IsValue : Value → Type 0
IsValue Nothing = Unit {0}
IsValue (Number z) = FitsSigned w64 z
IsValue (Text bytes) = (length bytes ≤ most_text) × IsBytes bytes

-- a tag, the length in two bytes or in four, and the text
abbrev pub text_bytes : List ℕ → List ℕ
text_bytes bytes = if nat_le (length bytes) most_short then 2 ∷ (to_be_bytes w16 (length bytes) ++ bytes) else 3 ∷ (to_be_bytes w32 (length bytes) ++ bytes)

-- a tag, then the number in eight bytes, or the length of the text and the text
abbrev pub value_bytes : Value → List ℕ
value_bytes Nothing = 0 ∷ []
value_bytes (Number z) = 1 ∷ to_be_bytes w64 (cast_unsigned w64 z)
value_bytes (Text bytes) = text_bytes bytes

-- ---- reading: each field in turn, and else the place of the first that is missing, cut short or out of range

infixl 10 ◌>>=◌
abbrev pub ◌>>=◌ : {A B : Type 0} → Result A ℕ → (A → Result B ℕ) → Result B ℕ
(Ok x) >>= f = f x
(Err at) >>= f = Err at

-- the field that begins at this place
abbrev pub field : {A : Type 0} → ℕ → Option A → Result A ℕ
field at None = Err at
field at (Some x) = Ok x

unfoldable pub number_value_at : List ℕ → Result (Value × List ℕ) ℕ
number_value_at bytes = do
  number ← field 1 (signed_at bytes)
  Ok (Number number.0, number.1)

-- a text of so many bytes, the first of which is at this place
unfoldable pub text_at : ℕ → ℕ → List ℕ → Result (Value × List ℕ) ℕ
text_at place size bytes = do
  text ← field place (front_at size bytes)
  Ok (Text text.0, text.1)

unfoldable pub short_text_at : List ℕ → Result (Value × List ℕ) ℕ
short_text_at bytes = do
  size ← field 1 (between 0 most_short (number_at w16 bytes))
  text_at 3 size.0 size.1

unfoldable pub long_text_at : List ℕ → Result (Value × List ℕ) ℕ
long_text_at bytes = do
  size ← field 1 (between (most_short + 1) most_text (number_at w32 bytes))
  text_at 5 size.0 size.1

-- the value at the front, and what follows it
unfoldable pub value_at : List ℕ → Result (Value × List ℕ) ℕ
value_at bytes = do
  tag ← field 0 (byte_at bytes)
  if tag.0 == 0 then Ok (Nothing, tag.1)
      else if tag.0 == 1 then number_value_at tag.1
      else if tag.0 == 2 then short_text_at tag.1
      else if tag.0 == 3 then long_text_at tag.1
      else Err 0

-- a value as one field of something else
abbrev pub found : {A : Type 0} → Result A ℕ → Option A
found (Ok x) = Some x
found (Err at) = None
