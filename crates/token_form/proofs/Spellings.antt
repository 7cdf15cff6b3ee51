-- The canonical spelling of a token is a spelling of it.
use Rattle.token_form.proofs.Names.{◌≡◌, ℕ, ◌+◌, ◌*◌, ◌/◌, ◌%◌, ◌<◌, ◌^◌, true, cond, List, [], ◌∷◌, length, get_or, refl, sym, subst, arith, ◌==◌, decimal, is_ascii_digit, is_in_range, flat_map, nat_tests, hex_digit_of, byte_text, Token, is_byte, AllPass, number_from, IsNumeral, Writes, itself, quote, backslash, line_end, by_digits, WritesAll, Spells, HasForm, IsToken, AreTokens, IsTokens, in_limits, all_in_limits, spelling}
use Rattle.std.proofs.lemmas.Fmt.{digits_decimal, digits_value-decimal, decimal_nonempty, first_decimal, decimal_digit}
use Rattle.std.proofs.lemmas.Str.Parse.{IsNumeralModel, IsDigitsTest, numerals_by_fold}
use Rattle.token_form.specs.declared.tokens.Token.TheVariants as t
use Rattle.token_form.proofs.Runs.{by_test, both}

-- ---- numbers

all_digits : IsDigitsTest (AllPass is_ascii_digit)
all_digits = record {
  empty = tt;
  parts = λ c cs h. (grind (arith, nat_tests, h.0), h.1);
  more = λ c cs d h. (grind (arith, nat_tests), h);
}

own : IsNumeralModel (AllPass is_ascii_digit) (number_from 0)
own = numerals_by_fold _ all_digits number_from (record { empty = λ n. refl; more = λ n c cs d. refl })

-- digits that don't begin with `0`
numeral_above : (digits : List ℕ) → AllPass is_ascii_digit digits → 0 < length digits → 48 < get_or digits 0 0 → IsNumeral digits
numeral_above [] all some above = absurd (omega arith)
numeral_above (d ∷ ds) all some above = (all.0, all.1, λ e. absurd (omega arith))

decimal_is_numeral : (n : ℕ) → n < 2 ^ 64 → IsNumeral (decimal n)
decimal_is_numeral n small =
    by_test (n == 0) (λ p. IsNumeral (decimal n))
    (λ e. subst (λ z. IsNumeral (decimal z)) (let k : 0 ≡ n = grind (arith, nat_tests) in k) (subst IsNumeral (sym (decimal_digit 0 (omega arith))) (refl, tt, λ e. refl)))
    (λ e. let k : 0 < n = grind (arith, nat_tests) in numeral_above (decimal n) (digits_decimal own n small) (decimal_nonempty n small) (first_decimal n k small))

number_spells : (n : ℕ) → n < 2 ^ 64 → Spells (t.Number n) (decimal n)
number_spells n small = (decimal_is_numeral n small, digits_value-decimal own n small)

-- ---- texts

byte_is_written : (b : ℕ) → b < 256 → Writes b (byte_text b)
byte_is_written b small =
    by_test (b == 34) (λ p. Writes b (cond p (92 ∷ 34 ∷ []) (cond (b == 92) (92 ∷ 92 ∷ []) (cond (b == 10) (92 ∷ 110 ∷ []) (cond (is_in_range 32 126 b) (b ∷ []) digits)))))
    (λ e. subst (λ z. Writes z (92 ∷ 34 ∷ [])) (let k : 34 ≡ b = grind (arith, nat_tests) in k) quote)
    (λ e. by_test (b == 92) (λ p. Writes b (cond p (92 ∷ 92 ∷ []) (cond (b == 10) (92 ∷ 110 ∷ []) (cond (is_in_range 32 126 b) (b ∷ []) digits))))
    (λ f. subst (λ z. Writes z (92 ∷ 92 ∷ [])) (let k : 92 ≡ b = grind (arith, nat_tests) in k) backslash)
    (λ f. by_test (b == 10) (λ p. Writes b (cond p (92 ∷ 110 ∷ []) (cond (is_in_range 32 126 b) (b ∷ []) digits)))
    (λ h. subst (λ z. Writes z (92 ∷ 110 ∷ [])) (let k : 10 ≡ b = grind (arith, nat_tests) in k) line_end)
    (λ h. by_test (is_in_range 32 126 b) (λ p. Writes b (cond p (b ∷ []) digits))
    (λ i. itself (rw (i, e, f) refl))
    (λ i. subst (λ z. Writes z digits) (let k : 16 * (b / 16) + b % 16 ≡ b = omega arith in k) (by_digits (b / 16) (b % 16) (omega arith) (omega arith))))))
  where
    digits : List ℕ
    digits = 92 ∷ 120 ∷ hex_digit_of (b / 16) ∷ hex_digit_of (b % 16) ∷ []

content_is_written : (content : List ℕ) → AllPass is_byte content → WritesAll content (flat_map byte_text content)
content_is_written [] all = refl
content_is_written (b ∷ bs) all = (byte_text b, flat_map byte_text bs, refl, byte_is_written b (let k = all.0 in grind (arith, nat_tests)), content_is_written bs all.1)

-- what is printed of a token is a spelling of it
pub spells : (token : Token) → IsToken token → Spells token (spelling token)
spells (t.Name name) is = (refl, is.0.0, is.0.1)
spells (t.Number n) is = let small : n < 2 ^ 63 = (let k = is.1 in grind (arith, nat_tests)) in number_spells n (omega arith)
spells (t.Text content) is = (flat_map byte_text content, refl, content_is_written content is.0)
spells (t.Word word) is = refl
spells (t.Sign sign) is = refl

-- ---- what is spelled has a form

written_is_byte : (b : ℕ) (front : List ℕ) → Writes b front → is_byte b ≡ true
written_is_byte b front (itself e) = grind (arith, nat_tests)
written_is_byte b front quote = refl
written_is_byte b front backslash = refl
written_is_byte b front line_end = refl
written_is_byte b front (by_digits high low h l) = let k : 16 * high + low < 256 = omega arith in grind (arith, nat_tests)

content_is_bytes : (content inside : List ℕ) → WritesAll content inside → AllPass is_byte content
content_is_bytes [] inside e = tt
content_is_bytes (b ∷ bs) inside (front, rest, parts, writes, all) = (written_is_byte b front writes, content_is_bytes bs rest all)

pub spelled_has_form : (token : Token) (front : List ℕ) → Spells token front → HasForm token
spelled_has_form (t.Name name) front h = (h.1, h.2)
spelled_has_form (t.Number n) front h = tt
spelled_has_form (t.Text content) front h = content_is_bytes content h.0 h.2
spelled_has_form (t.Word word) front h = tt
spelled_has_form (t.Sign sign) front h = tt

-- the tokens of a line are tokens of scripts where they are in their limits
pub line_has_tokens : (bytes : List ℕ) (tokens : List Token) → IsTokens bytes tokens → all_in_limits tokens ≡ true → AreTokens tokens
line_has_tokens bytes [] h e = tt
line_has_tokens bytes (token ∷ more) (n, front, rest, parts, spells, ends, next) e =
    let k = both (in_limits token) (all_in_limits more) e in
    ((spelled_has_form token front spells, k.0), line_has_tokens rest more next k.1)
