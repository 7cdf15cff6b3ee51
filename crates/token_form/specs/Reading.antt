-- Tokens read one after another, by functions on lists.
use Rattle.std.specs.Prelude.{◌≡◌, ℕ, ◌+◌, ◌-◌, ◌*◌, Bool, true, ◌==◌, nat_lt, List, [], ◌∷◌, ◌++◌, Option, Some, None, if◌then◌else◌}
use Rattle.std.specs.Char.{is_ascii_digit}
use Rattle.std.specs.Int.{is_in_range}
use Rattle.std.specs.Str.{bytes_eq}
use Rattle.token_form.specs.declared.byte_runs.Run.{Run}
use Rattle.token_form.specs.declared.byte_runs.Run.TheVariants as run
use Rattle.token_form.specs.declared.quotes.Spot.{Spot}
use Rattle.token_form.specs.declared.quotes.Spot.TheVariants as at
use Rattle.token_form.specs.declared.quotes.Piece.{Piece}
use Rattle.token_form.specs.declared.quotes.Piece.TheVariants as piece
use Rattle.token_form.specs.declared.tokens.Word.{Word}
use Rattle.token_form.specs.declared.tokens.Word.TheVariants as w
use Rattle.token_form.specs.declared.tokens.Sign.{Sign}
use Rattle.token_form.specs.declared.tokens.Sign.TheVariants as g
use Rattle.token_form.specs.declared.tokens.Token.{Token}
use Rattle.token_form.specs.declared.tokens.Token.TheVariants as t
use Rattle.token_form.specs.Tokens.{word_spelling, is_letter, is_name_byte, number_from, in_limits}

-- ---- runs of bytes

abbrev pub passes : Run → ℕ → Bool
passes run.Spaces b = b == 32
passes run.Digits b = is_ascii_digit b
passes run.NameBytes b = is_name_byte b

-- the bytes at the front that pass
abbrev pub front_of : (ℕ → Bool) → List ℕ → List ℕ
front_of test [] = []
front_of test (b ∷ bs) = if test b then b ∷ front_of test bs else []

-- what follows them
abbrev pub rest_of : (ℕ → Bool) → List ℕ → List ℕ
rest_of test [] = []
rest_of test (b ∷ bs) = if test b then rest_of test bs else b ∷ bs

-- the first byte passes
abbrev pub Starts : (ℕ → Bool) → List ℕ → Type 0
Starts test [] = ⊥
Starts test (b ∷ bs) = test b ≡ true

-- ---- names and reserved names

abbrev pub words : List Word
words = w.Let ∷ w.Read ∷ w.Write ∷ w.Print ∷ w.If ∷ w.Else ∷ w.End ∷ w.Repeat ∷ w.Withdraw ∷ w.Done ∷ w.Nothing ∷ w.And ∷ w.Or ∷ w.Not ∷ w.Mod ∷ w.Len ∷ w.Text ∷ w.Given ∷ []

-- the first of these words that is spelled so
abbrev pub word_in : List Word → List ℕ → Option Word
word_in [] name = None
word_in (word ∷ more) name = if bytes_eq name (word_spelling word) then Some word else word_in more name

abbrev pub word_or_name : List ℕ → Option Word → Token
word_or_name name (Some word) = t.Word word
word_or_name name None = t.Name name

abbrev pub name_token : List ℕ → Token
name_token name = word_or_name name (word_in words name)

-- ---- signs

abbrev pub sign_of : ℕ → Option Sign
sign_of b = if b == 61 then Some g.Equal else if b == 60 then Some g.Less else if b == 62 then Some g.Greater else if b == 43 then Some g.Plus else if b == 45 then Some g.Minus else if b == 42 then Some g.Star else if b == 47 then Some g.Slash else if b == 38 then Some g.Ampersand else if b == 40 then Some g.Open else if b == 41 then Some g.Close else if b == 91 then Some g.OpenBracket else if b == 93 then Some g.CloseBracket else if b == 46 then Some g.Dot else if b == 44 then Some g.Comma else None

-- the sign of two bytes that begins with this one
abbrev pub longer : Sign → ℕ → Option Sign
longer g.Less b = if b == 61 then Some g.LessEqual else if b == 62 then Some g.NotEqual else None
longer g.Greater b = if b == 61 then Some g.GreaterEqual else None
longer sign b = None

abbrev pub longer_or : Sign → ℕ → List ℕ → Option Sign → Sign × List ℕ
longer_or sign b bs (Some both) = (both, bs)
longer_or sign b bs None = (sign, b ∷ bs)

abbrev pub longest : Sign → List ℕ → Sign × List ℕ
longest sign [] = (sign, [])
longest sign (b ∷ bs) = longer_or sign b bs (longer sign b)

abbrev pub sign_then : Option Sign → List ℕ → Option (Sign × List ℕ)
sign_then None bs = None
sign_then (Some sign) bs = Some (longest sign bs)

-- the longest sign that begins with this byte, and what follows it
abbrev pub sign_at : ℕ → List ℕ → Option (Sign × List ℕ)
sign_at b bs = sign_then (sign_of b) bs

-- ---- texts

abbrev pub hex_value : ℕ → Option ℕ
hex_value b = if is_in_range 48 57 b then Some (b - 48) else if is_in_range 97 102 b then Some (b - 97 + 10) else None

abbrev pub plain_piece : ℕ → Piece
plain_piece b = if b == 34 then piece.Closes else if b == 92 then piece.Goes at.Escape else if is_in_range 32 126 b then piece.Gives b else piece.Refused

abbrev pub escape_piece : ℕ → Piece
escape_piece b = if b == 34 then piece.Gives 34 else if b == 92 then piece.Gives 92 else if b == 110 then piece.Gives 10 else if b == 120 then piece.Goes at.HighDigit else piece.Refused

abbrev pub high_piece : Option ℕ → Piece
high_piece (Some high) = piece.Goes (at.LowDigit high)
high_piece None = piece.Refused

abbrev pub low_piece : ℕ → Option ℕ → Piece
low_piece high (Some low) = piece.Gives (16 * high + low)
low_piece high None = piece.Refused

abbrev pub piece_at : Spot → ℕ → Piece
piece_at at.Plain b = plain_piece b
piece_at at.Escape b = escape_piece b
piece_at at.HighDigit b = high_piece (hex_value b)
piece_at (at.LowDigit high) b = low_piece high (hex_value b)

-- the digit behind `\x` is below 16
abbrev pub is_spot : Spot → Bool
is_spot (at.LowDigit high) = nat_lt high 16
is_spot _ = true

abbrev pub leads_on : Piece → Bool
leads_on (piece.Goes spot) = is_spot spot
leads_on _ = true

abbrev pub taken : Piece → List ℕ → List ℕ → (Spot → List ℕ → Option (List ℕ × List ℕ)) → Option (List ℕ × List ℕ)
taken piece.Closes content rest go = Some (content, rest)
taken piece.Refused content rest go = None
taken (piece.Goes spot) content rest go = go spot content
taken (piece.Gives b) content rest go = go at.Plain (content ++ b ∷ [])

-- the content of a text and what follows its closing quote, where this content was read before
abbrev pub inside : Spot → List ℕ → List ℕ → Option (List ℕ × List ℕ)
inside spot content [] = None
inside spot content (b ∷ bs) = taken (piece_at spot b) content bs (λ next more. inside next more bs)

-- ---- tokens

abbrev pub text_then : Option (List ℕ × List ℕ) → Option (Token × List ℕ)
text_then None = None
text_then (Some found) = Some (t.Text found.0, found.1)

-- a text whose opening quote stands before these bytes
abbrev pub text_at : List ℕ → Option (Token × List ℕ)
text_at bytes = text_then (inside at.Plain [] bytes)

abbrev pub sign_found : Option (Sign × List ℕ) → Option (Token × List ℕ)
sign_found None = None
sign_found (Some found) = Some (t.Sign found.0, found.1)

abbrev pub sign_token : ℕ → List ℕ → Option (Token × List ℕ)
sign_token b bs = sign_found (sign_at b bs)

-- the longest token at the front, and what follows it
abbrev pub first_token : List ℕ → Option (Token × List ℕ)
first_token [] = None
first_token (b ∷ bs) =
    if is_letter b then Some (name_token (front_of is_name_byte (b ∷ bs)), rest_of is_name_byte (b ∷ bs))
    else if b == 48 then Some (t.Number 0, bs)
    else if is_in_range 49 57 b then Some (t.Number (number_from 0 (front_of is_ascii_digit (b ∷ bs))), rest_of is_ascii_digit (b ∷ bs))
    else if b == 34 then text_at bs
    else sign_token b bs

-- a token that is in its limits
abbrev pub kept : Token → Option Token
kept token = if in_limits token then Some token else None

abbrev pub read_then : Option (Token × List ℕ) → Option (Option Token × List ℕ)
read_then None = None
read_then (Some found) = Some (kept found.0, found.1)

abbrev pub read_token : List ℕ → Option (Option Token × List ℕ)
read_token bytes = read_then (first_token bytes)
