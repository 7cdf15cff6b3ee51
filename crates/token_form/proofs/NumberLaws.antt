-- Numbers are read as they are spelled.
use Rattle.token_form.proofs.Names.{◌≡◌, ℕ, zero, suc, ◌+◌, ◌-◌, ◌*◌, ◌<◌, ◌≤◌, true, false, List, [], ◌∷◌, ◌++◌, Some, refl, sym, ap, ◌∙◌, subst, arith, ◌==◌, is_ascii_digit, is_in_range, nat_tests, is_letter, AllPass, number_from, IsNumeral, Spells, Ends, front_of, rest_of, first_token}
use Rattle.token_form.specs.declared.tokens.Token.TheVariants as t
use Rattle.token_form.proofs.Runs.{by_test, if_true, if_false, Stops, front_of-run, rest_of-run, front_of-passes, rest_of-stops, number_from-le}

digit_is_no_letter : (d : ℕ) → is_ascii_digit d ≡ true → is_letter d ≡ false
digit_is_no_letter d e = grind (arith, nat_tests)

start_of_number : (d : ℕ) → is_ascii_digit d ≡ true → (d == 48) ≡ false → is_in_range 49 57 d ≡ true
start_of_number d e z = grind (arith, nat_tests)

above_zero : (d : ℕ) → is_in_range 49 57 d ≡ true → 49 ≤ d
above_zero d e = grind (arith, nat_tests)

start_is_digit : (d : ℕ) → is_in_range 49 57 d ≡ true → is_ascii_digit d ≡ true
start_is_digit d e = grind (arith, nat_tests)

digit_first : (d : ℕ) (ds : List ℕ) → is_letter d ≡ false → (d == 48) ≡ false → is_in_range 49 57 d ≡ true
    → first_token (d ∷ ds) ≡ Some (t.Number (number_from 0 (front_of is_ascii_digit (d ∷ ds))), rest_of is_ascii_digit (d ∷ ds))
digit_first d ds letter other start = if_false _ _ _ letter ∙ if_false _ _ _ other ∙ if_true _ _ _ start

number_is_above : (d : ℕ) (ds : List ℕ) → 49 ≤ d → 0 < number_from 0 (d ∷ ds)
number_is_above d ds h = omega (arith, number_from-le (0 * 10 + (d - 48)) ds)

number_stops : (n : ℕ) (rest : List ℕ) → 0 < n → Ends (t.Number n) rest → Stops is_ascii_digit rest
number_stops zero rest h e = absurd (omega arith)
number_stops (suc n) [] h e = tt
number_stops (suc n) (b ∷ bs) h e = e

number_ends : (n : ℕ) (rest : List ℕ) → Stops is_ascii_digit rest → Ends (t.Number n) rest
number_ends zero [] stops = tt
number_ends zero (b ∷ bs) stops = refl
number_ends (suc n) [] stops = tt
number_ends (suc n) (b ∷ bs) stops = stops

pub zero_ends : (rest : List ℕ) → Ends (t.Number 0) rest
zero_ends [] = tt
zero_ends (b ∷ bs) = refl

-- ---- what is spelled is read

zero_is_read : (n d : ℕ) (ds rest : List ℕ) → d ≡ 48 → ds ≡ [] → number_from 0 (d ∷ ds) ≡ n → first_token ((d ∷ ds) ++ rest) ≡ Some (t.Number n, rest)
zero_is_read n d ds rest digit none value =
    let front : d ∷ ds ≡ 48 ∷ [] = cc in
    subst (λ f. number_from 0 f ≡ n → first_token (f ++ rest) ≡ Some (t.Number n, rest)) (sym front) (λ v. ap (λ z. Some (t.Number z, rest)) v) value

pub spelled_number_is_read : (n : ℕ) (front rest : List ℕ) → IsNumeral front → number_from 0 front ≡ n → Ends (t.Number n) rest → first_token (front ++ rest) ≡ Some (t.Number n, rest)
spelled_number_is_read n [] rest is value ends = absurd is
spelled_number_is_read n (d ∷ ds) rest is value ends =
    by_test (d == 48) (λ p. first_token ((d ∷ ds) ++ rest) ≡ Some (t.Number n, rest))
    (λ same. let k : d ≡ 48 = grind (arith, nat_tests) in zero_is_read n d ds rest k (is.2 k) value)
    (λ other. let pass : AllPass is_ascii_digit (d ∷ ds) = (is.0, is.1) in
    let start = start_of_number d is.0 other in
    let stops = number_stops n rest (subst (λ z. 0 < z) value (number_is_above d ds (above_zero d start))) ends in
    digit_first d (ds ++ rest) (digit_is_no_letter d is.0) other start
    ∙ ap (λ z. Some (t.Number (number_from 0 z), rest_of is_ascii_digit (d ∷ (ds ++ rest)))) (front_of-run is_ascii_digit (d ∷ ds) rest pass stops)
    ∙ ap (λ z. Some (t.Number (number_from 0 (d ∷ ds)), z)) (rest_of-run is_ascii_digit (d ∷ ds) rest pass stops)
    ∙ ap (λ z. Some (t.Number z, rest)) value)

-- ---- what is read is spelled so

pub read_number_is_spelled : (b : ℕ) (bs : List ℕ) → is_in_range 49 57 b ≡ true
    → Spells (t.Number (number_from 0 (front_of is_ascii_digit (b ∷ bs)))) (front_of is_ascii_digit (b ∷ bs))
    × Ends (t.Number (number_from 0 (front_of is_ascii_digit (b ∷ bs)))) (rest_of is_ascii_digit (b ∷ bs))
read_number_is_spelled b bs start =
    let digits = front_of is_ascii_digit (b ∷ bs) in
    ((numeral, refl), number_ends (number_from 0 digits) (rest_of is_ascii_digit (b ∷ bs)) (rest_of-stops is_ascii_digit (b ∷ bs)))
  where
    numeral : IsNumeral (front_of is_ascii_digit (b ∷ bs))
    numeral = let digit = start_is_digit b start in rw digit (digit, front_of-passes is_ascii_digit bs, λ e. absurd (omega (arith, above_zero b start)))
