-- The text of a script of the language is one of bytes.
use Rattle.serial_model.proofs.Names.{◌≡◌, ℕ, zero, suc, ◌+◌, ◌-◌, ◌/◌, ◌%◌, ◌<◌, ◌^◌, nat_lt, ◌==◌, Bool, true, false, cond, List, [], ◌∷◌, refl, arith, replicate, codes, is_in_range, flat_map, nat_tests, IsAscii-decimal, IsBytes, Prefix, Infix, Call, Term, Number, Text, Nothing, Name, Before, Between, Applied, Given, Spot, Fixed, At, Block, text, prefix_text, parenthesized_if, InLimits, Numbered, rows, SpotInLimits, RowInLimits, spot_text, row_text, line_text, rows_text, script_text, RowsInLimits, IsPrintable}
use Rattle.std.specs.Fmt.{decimal}
use Rattle.value_form.specs.declared.expressions.Prefix.TheVariants as p
use Rattle.value_form.specs.declared.expressions.Infix.TheVariants as op
use Rattle.value_form.specs.declared.expressions.Call.TheVariants as call
use Rattle.value_form.specs.TextForm.{byte_text, hex_digit_of, quoted_text}
use Rattle.token_form.specs.Tokens.{AllPass, IsName, is_byte, is_letter, is_name_byte, spelling}
use Rattle.expression_form.specs.Levels.{infix_level, left_level, prefix_level, infix_token, call_token}
use Rattle.expression_form.specs.Canonical.{is_looser}
use Rattle.script_form.specs.Row as r
use Rattle.script_form.specs.Row.{Row}
use Rattle.serial_model.proofs.OperationLemmas.{bytes-IsBytes, IsBytes-append}
use Rattle.serial_model.proofs.TestLemmas.{by_test}

one-byte : (b : ℕ) (bytes : List ℕ) → b < 256 → IsBytes bytes → IsBytes (b ∷ bytes)
one-byte b bytes h k zero = h
one-byte b bytes h k (suc i) = k i

no-bytes : IsBytes []
no-bytes i = omega arith

pub passing-IsBytes : (bytes : List ℕ) → AllPass is_byte bytes → IsBytes bytes
passing-IsBytes [] h = no-bytes
passing-IsBytes (b ∷ bytes) h = one-byte b bytes (let k = h.0 in grind (arith, nat_tests)) (passing-IsBytes bytes h.1)

decimal-IsBytes : (n : ℕ) → n < 2 ^ 64 → IsBytes (decimal n)
decimal-IsBytes n h i = let k = IsAscii-decimal n h i in omega arith

replicate-IsBytes : (n b : ℕ) → b < 256 → IsBytes (replicate n b)
replicate-IsBytes zero b h = no-bytes
replicate-IsBytes (suc n) b h = one-byte b (replicate n b) h (replicate-IsBytes n b h)

-- ---- texts and names

hex-below : (d : ℕ) → d < 16 → hex_digit_of d < 256
hex-below d h = by_test (nat_lt d 10) (λ c. cond c (48 + d) (97 + (d - 10)) < 256) (λ e. omega arith) (λ e. omega arith)

byte_text-IsBytes : (b : ℕ) → b < 256 → IsBytes (byte_text b)
byte_text-IsBytes b h =
    let hex : List ℕ = 92 ∷ 120 ∷ hex_digit_of (b / 16) ∷ hex_digit_of (b % 16) ∷ [] in
    let plain : List ℕ = cond (is_in_range 32 126 b) (b ∷ []) hex in
    let hex-bytes : IsBytes hex =
    (let low : List ℕ = hex_digit_of (b % 16) ∷ [] in
    let both : List ℕ = hex_digit_of (b / 16) ∷ low in
    one-byte 92 (120 ∷ both) (omega arith) (one-byte 120 both (omega arith) (one-byte (hex_digit_of (b / 16)) low (hex-below (b / 16) (omega arith)) (one-byte (hex_digit_of (b % 16)) [] (hex-below (b % 16) (omega arith)) no-bytes)))) in
    by_test (b == 34) (λ c. IsBytes (cond c (92 ∷ 34 ∷ []) (cond (b == 92) (92 ∷ 92 ∷ []) (cond (b == 10) (92 ∷ 110 ∷ []) plain)))) (λ e. bytes-IsBytes (92 ∷ 34 ∷ []) refl) (λ e.
    by_test (b == 92) (λ c. IsBytes (cond c (92 ∷ 92 ∷ []) (cond (b == 10) (92 ∷ 110 ∷ []) plain))) (λ e. bytes-IsBytes (92 ∷ 92 ∷ []) refl) (λ e.
    by_test (b == 10) (λ c. IsBytes (cond c (92 ∷ 110 ∷ []) plain)) (λ e. bytes-IsBytes (92 ∷ 110 ∷ []) refl) (λ e.
    by_test (is_in_range 32 126 b) (λ c. IsBytes (cond c (b ∷ []) hex)) (λ e. one-byte b [] h no-bytes) (λ e. hex-bytes))))

texts-IsBytes : (bytes : List ℕ) → AllPass is_byte bytes → IsBytes (flat_map byte_text bytes)
texts-IsBytes [] h = no-bytes
texts-IsBytes (b ∷ bytes) h = IsBytes-append (byte_text b) (flat_map byte_text bytes) (byte_text-IsBytes b (let k = h.0 in grind (arith, nat_tests))) (texts-IsBytes bytes h.1)

quoted-IsBytes : (bytes : List ℕ) → AllPass is_byte bytes → IsBytes (quoted_text bytes)
quoted-IsBytes bytes h = one-byte 34 _ (omega arith) (IsBytes-append (flat_map byte_text bytes) (34 ∷ []) (texts-IsBytes bytes h) (bytes-IsBytes (34 ∷ []) refl))

letter-below : (b : ℕ) → is_letter b ≡ true → b < 256
letter-below b e = grind (arith, nat_tests)

name_byte-below : (b : ℕ) → is_name_byte b ≡ true → b < 256
name_byte-below b e = grind (arith, nat_tests)

name_bytes-IsBytes : (bytes : List ℕ) → AllPass is_name_byte bytes → IsBytes bytes
name_bytes-IsBytes [] h = no-bytes
name_bytes-IsBytes (b ∷ bytes) h = one-byte b bytes (name_byte-below b h.0) (name_bytes-IsBytes bytes h.1)

name-IsBytes : (name : List ℕ) → IsName name → IsBytes name
name-IsBytes [] h = no-bytes
name-IsBytes (b ∷ bytes) h = one-byte b bytes (letter-below b h.0) (name_bytes-IsBytes bytes h.1)

-- ---- expressions

around : (b : Bool) (bytes : List ℕ) → IsBytes bytes → IsBytes (parenthesized_if b bytes)
around true bytes h = one-byte 40 _ (omega arith) (IsBytes-append bytes (41 ∷ []) h (bytes-IsBytes (41 ∷ []) refl))
around false bytes h = h

prefix-IsBytes : (o : Prefix) → IsBytes (prefix_text o)
prefix-IsBytes p.Not = bytes-IsBytes (codes "not ") refl
prefix-IsBytes p.Minus = bytes-IsBytes (codes "-") refl

infix-IsBytes : (o : Infix) → IsBytes (spelling (infix_token o))
infix-IsBytes op.Or = bytes-IsBytes (spelling (infix_token op.Or)) refl
infix-IsBytes op.And = bytes-IsBytes (spelling (infix_token op.And)) refl
infix-IsBytes op.Equal = bytes-IsBytes (spelling (infix_token op.Equal)) refl
infix-IsBytes op.NotEqual = bytes-IsBytes (spelling (infix_token op.NotEqual)) refl
infix-IsBytes op.Less = bytes-IsBytes (spelling (infix_token op.Less)) refl
infix-IsBytes op.LessEqual = bytes-IsBytes (spelling (infix_token op.LessEqual)) refl
infix-IsBytes op.Greater = bytes-IsBytes (spelling (infix_token op.Greater)) refl
infix-IsBytes op.GreaterEqual = bytes-IsBytes (spelling (infix_token op.GreaterEqual)) refl
infix-IsBytes op.Add = bytes-IsBytes (spelling (infix_token op.Add)) refl
infix-IsBytes op.Subtract = bytes-IsBytes (spelling (infix_token op.Subtract)) refl
infix-IsBytes op.Join = bytes-IsBytes (spelling (infix_token op.Join)) refl
infix-IsBytes op.Multiply = bytes-IsBytes (spelling (infix_token op.Multiply)) refl
infix-IsBytes op.Divide = bytes-IsBytes (spelling (infix_token op.Divide)) refl
infix-IsBytes op.Modulo = bytes-IsBytes (spelling (infix_token op.Modulo)) refl

call-IsBytes : (f : Call) → IsBytes (spelling (call_token f))
call-IsBytes call.Len = bytes-IsBytes (spelling (call_token call.Len)) refl
call-IsBytes call.Text = bytes-IsBytes (spelling (call_token call.Text)) refl

text-IsBytes : (x : Term) → InLimits x → IsBytes (text x)
text-IsBytes (Number n) h = decimal-IsBytes n (let k = h.1 in grind (arith, nat_tests))
text-IsBytes (Text content) h = quoted-IsBytes content h.0
text-IsBytes Nothing h = bytes-IsBytes (codes "nothing") refl
text-IsBytes (Name name) h = name-IsBytes name h.0.0
text-IsBytes (Before o x) h = IsBytes-append (prefix_text o) _ (prefix-IsBytes o) (around (is_looser x (prefix_level o)) (text x) (text-IsBytes x h))
text-IsBytes (Between o x y) h =
    IsBytes-append (parenthesized_if (is_looser x (left_level o)) (text x)) _ (around (is_looser x (left_level o)) (text x) (text-IsBytes x h.0))
    (one-byte 32 _ (omega arith) (IsBytes-append (spelling (infix_token o)) _ (infix-IsBytes o)
    (one-byte 32 _ (omega arith) (around (is_looser y (infix_level o + 1)) (text y) (text-IsBytes y h.1)))))
text-IsBytes (Applied f x) h = IsBytes-append (spelling (call_token f)) _ (call-IsBytes f) (around true (text x) (text-IsBytes x h))
text-IsBytes (Given x y) h =
    IsBytes-append (codes "given(") _ (bytes-IsBytes (codes "given(") refl) (IsBytes-append (text x) _ (text-IsBytes x h.0)
    (IsBytes-append (codes ", ") _ (bytes-IsBytes (codes ", ") refl) (IsBytes-append (text y) _ (text-IsBytes y h.1) (bytes-IsBytes (41 ∷ []) refl))))

-- ---- rows

spot-IsBytes : (place : Spot) → SpotInLimits place → IsBytes (spot_text place)
spot-IsBytes (Fixed o) h =
    IsBytes-append (decimal o.repository) _ (decimal-IsBytes o.repository (let k = h.0.1 in omega arith)) (one-byte 46 _ (omega arith) (decimal-IsBytes o.number (let k = h.1 in omega arith)))
spot-IsBytes (At n x) h =
    IsBytes-append (decimal n) _ (decimal-IsBytes n (let k = h.0.1 in omega arith)) (one-byte 91 _ (omega arith) (IsBytes-append (text x) _ (text-IsBytes x h.1) (bytes-IsBytes (93 ∷ []) refl)))

row-IsBytes : (x : Row) → RowInLimits x → IsBytes (row_text x)
row-IsBytes (r.Let name x) h =
    IsBytes-append (codes "let ") _ (bytes-IsBytes (codes "let ") refl) (IsBytes-append name _ (name-IsBytes name h.0.0.0) (IsBytes-append (codes " = ") _ (bytes-IsBytes (codes " = ") refl) (text-IsBytes x h.1)))
row-IsBytes (r.Read name place) h =
    IsBytes-append (codes "read ") _ (bytes-IsBytes (codes "read ") refl) (IsBytes-append name _ (name-IsBytes name h.0.0.0) (one-byte 32 _ (omega arith) (spot-IsBytes place h.1)))
row-IsBytes (r.Write place x) h =
    IsBytes-append (codes "write ") _ (bytes-IsBytes (codes "write ") refl) (IsBytes-append (spot_text place) _ (spot-IsBytes place h.0) (one-byte 32 _ (omega arith) (text-IsBytes x h.1)))
row-IsBytes (r.Print x) h = IsBytes-append (codes "print ") _ (bytes-IsBytes (codes "print ") refl) (text-IsBytes x h)
row-IsBytes (r.If x) h = IsBytes-append (codes "if ") _ (bytes-IsBytes (codes "if ") refl) (text-IsBytes x h)
row-IsBytes r.Else h = bytes-IsBytes (codes "else") refl
row-IsBytes r.End h = bytes-IsBytes (codes "end") refl
row-IsBytes (r.Repeat x) h = IsBytes-append (codes "repeat ") _ (bytes-IsBytes (codes "repeat ") refl) (text-IsBytes x h)
row-IsBytes r.Withdraw h = bytes-IsBytes (codes "withdraw") refl

rows-IsBytes : (greatest next : ℕ) (xs : List Numbered) → RowsInLimits greatest xs → IsBytes (rows_text next xs)
rows-IsBytes greatest next [] h = no-bytes
rows-IsBytes greatest next (x ∷ xs) (limits, up_to, more) =
    IsBytes-append (line_text next x.line (row_text x.row)) _
    (IsBytes-append (replicate (x.line - next) 10) _ (replicate-IsBytes (x.line - next) 10 (omega arith)) (IsBytes-append (row_text x.row) _ (row-IsBytes x.row limits) (bytes-IsBytes (10 ∷ []) refl)))
    (rows-IsBytes greatest (x.line + 1) xs more)

pub script-IsBytes : (greatest : ℕ) (script : Block) → IsPrintable greatest script → IsBytes (script_text script)
script-IsBytes greatest script p = rows-IsBytes greatest 1 (rows script) p.limits
