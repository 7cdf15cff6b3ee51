-- How bytes stand in the text of a page, and how they are read off it.
use Rattle.std.specs.Prelude.{ℕ, ◌+◌, ◌-◌, ◌*◌, ◌/◌, ◌%◌, ◌==◌, ◌<◌, Bool, true, false, ◌&&◌, ◌||◌, not, List, [], ◌∷◌, ◌++◌, codes, nat_lt, if◌then◌else◌}
use Rattle.std.specs.Int.{is_in_range}
use Rattle.std.specs.List.{flat_map}

abbrev pub AreBytes : List ℕ → Type 0
AreBytes [] = Unit {0}
AreBytes (b ∷ bytes) = (b < 256) × AreBytes bytes

-- ---- texts

-- `0` to `9`, then `a` to `f`
abbrev pub hex_digit : ℕ → ℕ
hex_digit d = if nat_lt d 10 then 48 + d else 97 + (d - 10)

-- a byte that isn't printable reads `\x` and two digits; its backslash is a reference, so it isn't taken for those bytes
abbrev pub other_byte : ℕ → List ℕ
other_byte b = codes "&#92;x" ++ hex_digit (b / 16) ∷ hex_digit (b % 16) ∷ []

-- bytes that mean something to HTML are references, an end of a line and other printable bytes stand as they are
abbrev pub text_byte : ℕ → List ℕ
text_byte b =
    if b == 38 then codes "&#38;"
    else if b == 60 then codes "&#60;"
    else if b == 62 then codes "&#62;"
    else if b == 34 then codes "&#34;"
    else if b == 39 then codes "&#39;"
    else if b == 10 then b ∷ []
    else if is_in_range 32 126 b then b ∷ []
    else other_byte b

-- in an attribute an end of a line is a reference, too
abbrev pub attribute_byte : ℕ → List ℕ
attribute_byte b = if b == 10 then codes "&#10;" else text_byte b

-- the text of an element
abbrev pub page_text : List ℕ → List ℕ
page_text bytes = flat_map text_byte bytes

-- the text of an attribute, without its quotes
abbrev pub attribute_text : List ℕ → List ℕ
attribute_text bytes = flat_map attribute_byte bytes

-- ---- what a page's reader sees

-- a byte that ends no element and no attribute: printable or an end of a line, and none of `"`, `'`, `<` and `>`
abbrev pub is_inside : ℕ → Bool
is_inside b = (b == 10 || is_in_range 32 126 b) && not (b == 34 || b == 39 || b == 60 || b == 62)

abbrev pub is_digit : ℕ → Bool
is_digit b = is_in_range 48 57 b

-- `#`, two digits and `;` stand at the front
abbrev pub is_reference : List ℕ → Bool
is_reference [] = false
is_reference (h ∷ []) = false
is_reference (h ∷ t ∷ []) = false
is_reference (h ∷ t ∷ o ∷ []) = false
is_reference (h ∷ t ∷ o ∷ s ∷ rest) = h == 35 && is_digit t && is_digit o && s == 59

-- each `&` begins a reference
unfoldable pub has_references : List ℕ → Bool
has_references [] = true
has_references (c ∷ text) = (if c == 38 then is_reference text else true) && has_references text

-- ---- reading the bytes again

-- where a reader stands: at a byte, or in a reference, or behind the backslash of a byte that isn't printable
pub data Stage : Type 0 where
  AtByte : Stage
  AtHash : Stage
  AtTens : Stage
  AtOnes : ℕ → Stage
  AtEnd : ℕ → Stage
  AtX : Stage
  AtHigh : Stage
  AtLow : ℕ → Stage

abbrev pub hex_value : ℕ → ℕ
hex_value c = if nat_lt c 97 then c - 48 else c - 87

-- where it stands behind this byte of the text
abbrev pub stage_after : Stage → ℕ → Stage
stage_after AtByte c = if c == 38 then AtHash else AtByte
stage_after AtHash c = AtTens
stage_after AtTens c = AtOnes (c - 48)
stage_after (AtOnes t) c = AtEnd (10 * t + (c - 48))
stage_after (AtEnd n) c = if n == 92 then AtX else AtByte
stage_after AtX c = AtHigh
stage_after AtHigh c = AtLow (hex_value c)
stage_after (AtLow h) c = AtByte

-- the byte that this byte of the text ends, if it ends one
abbrev pub bytes_ended : Stage → ℕ → List ℕ
bytes_ended AtByte c = if c == 38 then [] else c ∷ []
bytes_ended AtHash c = []
bytes_ended AtTens c = []
bytes_ended (AtOnes t) c = []
bytes_ended (AtEnd n) c = if n == 92 then [] else n ∷ []
bytes_ended AtX c = []
bytes_ended AtHigh c = []
bytes_ended (AtLow h) c = (16 * h + hex_value c) ∷ []

unfoldable pub read_from : Stage → List ℕ → List ℕ
read_from stage [] = []
read_from stage (c ∷ text) = bytes_ended stage c ++ read_from (stage_after stage c) text

-- the bytes that a text stands for
abbrev pub read_back : List ℕ → List ℕ
read_back text = read_from AtByte text
