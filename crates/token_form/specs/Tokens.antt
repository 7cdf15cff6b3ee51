-- Which bytes are a list of tokens.
use Rattle.std.specs.Prelude.{◌≡◌, ℕ, zero, suc, ◌+◌, ◌-◌, ◌*◌, ◌^◌, ◌<◌, Bool, true, false, not, ◌&&◌, ◌||◌, ◌==◌, nat_le, nat_lt, List, [], ◌∷◌, ◌++◌, codes, length}
use Rattle.std.specs.Char.{is_ascii_digit}
use Rattle.std.specs.Fmt.{decimal}
use Rattle.std.specs.Int.{is_in_range}
use Rattle.value_form.specs.TextForm.{hex_digit_of, quoted_text}
use Rattle.token_form.specs.declared.tokens.Word.{Word}
use Rattle.token_form.specs.declared.tokens.Word.TheVariants as w
use Rattle.token_form.specs.declared.tokens.Sign.{Sign}
use Rattle.token_form.specs.declared.tokens.Sign.TheVariants as g
use Rattle.token_form.specs.declared.tokens.Token.{Token}
use Rattle.token_form.specs.declared.tokens.Token.TheVariants as t

-- ---- words and signs: each has one spelling

abbrev pub word_spelling : Word → List ℕ
word_spelling w.Let = codes "let"
word_spelling w.Read = codes "read"
word_spelling w.Write = codes "write"
word_spelling w.Print = codes "print"
word_spelling w.If = codes "if"
word_spelling w.Else = codes "else"
word_spelling w.End = codes "end"
word_spelling w.Repeat = codes "repeat"
word_spelling w.Withdraw = codes "withdraw"
word_spelling w.Done = codes "done"
word_spelling w.Nothing = codes "nothing"
word_spelling w.And = codes "and"
word_spelling w.Or = codes "or"
word_spelling w.Not = codes "not"
word_spelling w.Mod = codes "mod"
word_spelling w.Len = codes "len"
word_spelling w.Text = codes "text"
word_spelling w.Given = codes "given"

abbrev pub sign_spelling : Sign → List ℕ
sign_spelling g.Equal = codes "="
sign_spelling g.NotEqual = codes "<>"
sign_spelling g.Less = codes "<"
sign_spelling g.LessEqual = codes "<="
sign_spelling g.Greater = codes ">"
sign_spelling g.GreaterEqual = codes ">="
sign_spelling g.Plus = codes "+"
sign_spelling g.Minus = codes "-"
sign_spelling g.Star = codes "*"
sign_spelling g.Slash = codes "/"
sign_spelling g.Ampersand = codes "&"
sign_spelling g.Open = codes "("
sign_spelling g.Close = codes ")"
sign_spelling g.OpenBracket = codes "["
sign_spelling g.CloseBracket = codes "]"
sign_spelling g.Dot = codes "."
sign_spelling g.Comma = codes ","

-- ---- bytes

-- `a` to `z`
abbrev pub is_letter : ℕ → Bool
is_letter b = is_in_range 97 122 b

-- `a` to `z`, `0` to `9` and `_`
abbrev pub is_name_byte : ℕ → Bool
is_name_byte b = is_letter b || is_ascii_digit b || b == 95

-- what stands in a text as itself: 20 to 7E but a quote and a backslash
abbrev pub is_plain : ℕ → Bool
is_plain b = is_in_range 32 126 b && not (b == 34) && not (b == 92)

abbrev pub is_byte : ℕ → Bool
is_byte b = nat_lt b 256

-- each byte passes the test
abbrev pub AllPass : (ℕ → Bool) → List ℕ → Type 0
AllPass test [] = Unit {0}
AllPass test (b ∷ bs) = (test b ≡ true) × AllPass test bs

-- ---- names, numbers and texts

-- a letter, then letters, digits and `_`
abbrev pub IsName : List ℕ → Type 0
IsName [] = ⊥
IsName (b ∷ bs) = (is_letter b ≡ true) × AllPass is_name_byte bs

abbrev pub IsReserved : List ℕ → Type 0
IsReserved name = (word : Word) × (name ≡ word_spelling word)

-- the number of these digits, where those of `n` stand before them
abbrev pub number_from : ℕ → List ℕ → ℕ
number_from n [] = n
number_from n (d ∷ ds) = number_from (n * 10 + (d - 48)) ds

-- one digit or more, with no `0` before another digit
abbrev pub IsNumeral : List ℕ → Type 0
IsNumeral [] = ⊥
IsNumeral (d ∷ ds) = (is_ascii_digit d ≡ true) × AllPass is_ascii_digit ds × (d ≡ 48 → ds ≡ [])

-- the ways to write a byte of a text: as itself, after a backslash, or by two digits
pub data Writes : ℕ → List ℕ → Type 0 where
  itself : {b : ℕ} → is_plain b ≡ true → Writes b (b ∷ [])
  quote : Writes 34 (92 ∷ 34 ∷ [])
  backslash : Writes 92 (92 ∷ 92 ∷ [])
  line_end : Writes 10 (92 ∷ 110 ∷ [])
  by_digits : (high low : ℕ) → high < 16 → low < 16 → Writes (16 * high + low) (92 ∷ 120 ∷ hex_digit_of high ∷ hex_digit_of low ∷ [])

-- what may stand between the quotes of a text with this content
abbrev pub WritesAll : List ℕ → List ℕ → Type 0
WritesAll [] inside = inside ≡ []
WritesAll (b ∷ bs) inside = (front rest : List ℕ) × (inside ≡ front ++ rest) × Writes b front × WritesAll bs rest

-- ---- tokens

-- the spellings of a token: a text may have several, each other token has one
abbrev pub Spells : Token → List ℕ → Type 0
Spells (t.Name name) bytes = (bytes ≡ name) × IsName name × (IsReserved name → ⊥)
Spells (t.Number n) bytes = IsNumeral bytes × (number_from 0 bytes ≡ n)
Spells (t.Text content) bytes = (inside : List ℕ) × (bytes ≡ 34 ∷ (inside ++ 34 ∷ [])) × WritesAll content inside
Spells (t.Word word) bytes = bytes ≡ word_spelling word
Spells (t.Sign sign) bytes = bytes ≡ sign_spelling sign

-- whether with this byte behind it the token would be longer
abbrev pub goes_on : Token → ℕ → Bool
goes_on (t.Name name) b = is_name_byte b
goes_on (t.Number zero) b = false
goes_on (t.Number (suc n)) b = is_ascii_digit b
goes_on (t.Text content) b = false
goes_on (t.Word word) b = is_name_byte b
goes_on (t.Sign g.Less) b = b == 61 || b == 62
goes_on (t.Sign g.Greater) b = b == 61
goes_on (t.Sign sign) b = false

-- the longest token is taken
abbrev pub Ends : Token → List ℕ → Type 0
Ends token [] = Unit {0}
Ends token (b ∷ bs) = goes_on token b ≡ false

abbrev pub spaces : ℕ → List ℕ
spaces zero = []
spaces (suc n) = 32 ∷ spaces n

-- The bytes are these tokens, each the longest that can be taken; spaces may stand before, between and after them.
abbrev pub IsTokens : List ℕ → List Token → Type 0
IsTokens bytes [] = (n : ℕ) × (bytes ≡ spaces n)
IsTokens bytes (token ∷ more) = (n : ℕ) × (front rest : List ℕ) × (bytes ≡ spaces n ++ (front ++ rest)) × Spells token front × Ends token rest × IsTokens rest more

-- ---- limits

-- the most bytes of a text that stands in a script; one that a script makes may be longer
abbrev pub most_quoted : ℕ
most_quoted = 1000

abbrev pub in_limits : Token → Bool
in_limits (t.Name name) = nat_le (length name) 16
in_limits (t.Number n) = nat_lt n (2 ^ 63)
in_limits (t.Text content) = nat_le (length content) most_quoted
in_limits (t.Word word) = true
in_limits (t.Sign sign) = true

abbrev pub all_in_limits : List Token → Bool
all_in_limits [] = true
all_in_limits (token ∷ more) = in_limits token && all_in_limits more

abbrev pub is_dot : Token → Bool
is_dot (t.Sign g.Dot) = true
is_dot _ = false

-- `.` or `[`, which stand behind a repository
abbrev pub opens_object : Token → Bool
opens_object (t.Sign g.Dot) = true
opens_object (t.Sign g.OpenBracket) = true
opens_object _ = false

-- a number before `.` or `[` is a repository, from 1 to the greatest
abbrev pub is_repository : ℕ → Token → Bool
is_repository greatest (t.Number n) = is_in_range 1 greatest n
is_repository greatest _ = true

-- a number after `.` is that of an object
abbrev pub is_object_number : Token → Bool
is_object_number (t.Number n) = nat_lt n (2 ^ 32)
is_object_number _ = true

abbrev pub pair_fits : ℕ → Token → Token → Bool
pair_fits greatest a b = (not (opens_object b) || is_repository greatest a) && (not (is_dot a) || is_object_number b)

abbrev pub next_fits : ℕ → Token → List Token → Bool
next_fits greatest a [] = true
next_fits greatest a (b ∷ more) = pair_fits greatest a b

-- the objects in the tokens are in range, with repositories up to the greatest
abbrev pub objects_fit : ℕ → List Token → Bool
objects_fit greatest [] = true
objects_fit greatest (a ∷ more) = next_fits greatest a more && objects_fit greatest more

-- every number, text, name and object is in its limit
abbrev pub in_range : ℕ → List Token → Bool
in_range greatest tokens = all_in_limits tokens && objects_fit greatest tokens

-- ---- the canonical spelling

-- a name that isn't reserved, any number, a text of bytes
abbrev pub HasForm : Token → Type 0
HasForm (t.Name name) = IsName name × (IsReserved name → ⊥)
HasForm (t.Number n) = Unit {0}
HasForm (t.Text content) = AllPass is_byte content
HasForm (t.Word word) = Unit {0}
HasForm (t.Sign sign) = Unit {0}

-- a token of scripts: it has a form and is in its limits
abbrev pub IsToken : Token → Type 0
IsToken token = HasForm token × (in_limits token ≡ true)

abbrev pub AreTokens : List Token → Type 0
AreTokens [] = Unit {0}
AreTokens (token ∷ more) = IsToken token × AreTokens more

-- how a token is printed
abbrev pub spelling : Token → List ℕ
spelling (t.Name name) = name
spelling (t.Number n) = decimal n
spelling (t.Text content) = quoted_text content
spelling (t.Word word) = word_spelling word
spelling (t.Sign sign) = sign_spelling sign
