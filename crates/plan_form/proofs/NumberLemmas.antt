-- Numbers behind words are read as they are written.
use Rattle.plan_form.proofs.Names.{◌≡◌, ℕ, ◌<◌, ◌≤◌, ◌^◌, ◌⊎◌, inl, inr, true, false, Bool, cond, List, [], ◌∷◌, ◌++◌, length, get_or, take, drop, Option, Some, None, refl, sym, ap, ◌∙◌, subst, arith, append-nil, MatchOption, ◌==◌, ◌&&◌, not, nat_le, decimal, is_ascii_digit, pointwise, le-leb, lt-ltb, nat_tests, Decides-eqb, decimal-digits_value, take-append-drop, slice_eq-Decides, AllPass, number_from, IsNumeral, by_test, split_if, both, Stops, front_of-run, rest_of-run, front_of-passes, front-rest, InRange, IsNumbered, ◌>>=◌, after_front, digits_of, behind_digits, is_numeral, number_first, number_behind, number_alone}
use Rattle.std.proofs.Math.Seq.{take-append_seam, drop-append_seam}
use Rattle.std.proofs.lemmas.Str.Parse.{IsNumeralModel, IsDigitsTest, numerals_by_fold}
use Rattle.token_form.specs.declared.tokens.Token.TheVariants as t
use Rattle.token_form.proofs.Spellings.{spells}

-- ---- parts read one after another

pub bind_some : {A B : Type 0} (o : Option A) (x : A) (f : A → Option B) → o ≡ Some x → (o >>= f) ≡ f x
bind_some o x f e = ap (λ z. z >>= f) e

pub bind_is : {A B : Type 0} (o : Option A) (f : A → Option B) (y : B) → (o >>= f) ≡ Some y → (x : A) × (o ≡ Some x) × (f x ≡ Some y)
bind_is (Some x) f y e = (x, refl, e)
bind_is None f y e = absurd (cc)

pub pairs_are : {A B : Type 0} (a c : A) (b d : B) → ◌≡◌ {A = Option (A × B)} (Some (a, b)) (Some (c, d)) → (a ≡ c) × (b ≡ d)
pairs_are {A} {B} a c b d e = let p : ◌≡◌ {A = A × B} (a, b) (c, d) = cc in (ap (λ (q : A × B). q.0) p, ap (λ (q : A × B). q.1) p)

-- ---- numerals

all_digits : IsDigitsTest (AllPass is_ascii_digit)
all_digits = record {
  empty = tt;
  parts = λ c cs h. (grind (arith, nat_tests, h.0), h.1);
  more = λ c cs d h. (grind (arith, nat_tests), h);
}

own : IsNumeralModel (AllPass is_ascii_digit) (number_from 0)
own = numerals_by_fold _ all_digits number_from (record { empty = λ n. refl; more = λ n c cs d. refl })

pub decimal_spells : (n : ℕ) → n < 2 ^ 63 → IsNumeral (decimal n) × (number_from 0 (decimal n) ≡ n)
decimal_spells n small = spells (t.Number n) (tt, lt-ltb n (2 ^ 63) small)

numeral_passes : (ds : List ℕ) → IsNumeral ds → AllPass is_ascii_digit ds
numeral_passes [] is = absurd is
numeral_passes (d ∷ ds) is = (is.0, is.1)

is_numeral-true : (ds : List ℕ) → IsNumeral ds → is_numeral ds ≡ true
is_numeral-true [] is = absurd is
is_numeral-true (d ∷ []) is = refl
is_numeral-true (d ∷ e ∷ ds) is =
    by_test (d == 48) (λ p. not p ≡ true) (λ same. let k : e ∷ ds ≡ [] = is.2 ((Decides-eqb d 48).0 same) in absurd (cc)) (λ other. refl)

above_zero : (ds : List ℕ) → is_numeral ds ≡ true → 0 < length ds
above_zero [] e = absurd (cc)
above_zero (d ∷ ds) e = omega arith

zero_alone : (ds : List ℕ) → is_numeral ds ≡ true → get_or ds 0 0 ≡ 48 → length ds ≡ 1
zero_alone [] e z = absurd (cc)
zero_alone (d ∷ []) e z = refl
zero_alone (d ∷ c ∷ ds) e z = absurd (let k : not (d == 48) ≡ false = ap (λ p. not p) ((Decides-eqb d 48).1 z) in cc)

digits_are_decimal : (ds : List ℕ) → AllPass is_ascii_digit ds → is_numeral ds ≡ true → number_from 0 ds < 2 ^ 63 → ds ≡ decimal (number_from 0 ds)
digits_are_decimal ds pass is small = sym (decimal-digits_value own ds pass (above_zero ds is) (zero_alone ds is) (omega (arith, small)))

-- ---- a number at the front

pub number_first-written : (greatest n : ℕ) (rest : List ℕ) → greatest < 2 ^ 63 → InRange greatest n → Stops is_ascii_digit rest → number_first greatest (decimal n ++ rest) ≡ Some (n, rest)
number_first-written greatest n rest small range stops =
    let low = range.0 in let high = range.1 in
    let is = decimal_spells n (omega arith) in
    let pass = numeral_passes (decimal n) is.0 in
    let front = front_of-run is_ascii_digit (decimal n) rest pass stops in
    let behind = rest_of-run is_ascii_digit (decimal n) rest pass stops in
    let found : List ℕ → List ℕ → Option (ℕ × List ℕ) = λ f r. cond (is_numeral f && nat_le 1 (number_from 0 f) && nat_le (number_from 0 f) greatest) (Some (number_from 0 f, r)) None in
    ap (λ f. found f (behind_digits (decimal n ++ rest))) front
    ∙ ap (λ r. found (decimal n) r) behind
    ∙ ap (λ p. cond (p && nat_le 1 (number_from 0 (decimal n)) && nat_le (number_from 0 (decimal n)) greatest) (Some (number_from 0 (decimal n), rest)) None) (is_numeral-true (decimal n) is.0)
    ∙ ap (λ m. cond (true && nat_le 1 m && nat_le m greatest) (Some (m, rest)) None) is.1
    ∙ ap (λ p. cond (true && p && nat_le n greatest) (Some (n, rest)) None) (le-leb 1 n low)
    ∙ ap (λ p. cond (true && true && p) (Some (n, rest)) None) (le-leb n greatest high)

pub number_first-is : (greatest n : ℕ) (bytes rest : List ℕ) → greatest < 2 ^ 63 → number_first greatest bytes ≡ Some (n, rest) → InRange greatest n × (bytes ≡ decimal n ++ rest)
number_first-is greatest n bytes rest small e =
    chosen (split_if test (Some (number_from 0 ds, behind_digits bytes)) None (Some (n, rest)) e)
  where
    ds : List ℕ
    ds = digits_of bytes

    test : Bool
    test = is_numeral ds && nat_le 1 (number_from 0 ds) && nat_le (number_from 0 ds) greatest

    chosen : ((test ≡ true) × (◌≡◌ {A = Option (ℕ × List ℕ)} (Some (number_from 0 ds, behind_digits bytes)) (Some (n, rest)))) ⊎ ((test ≡ false) × (◌≡◌ {A = Option (ℕ × List ℕ)} None (Some (n, rest)))) → InRange greatest n × (bytes ≡ decimal n ++ rest)
    chosen (inl (is, same)) =
        let p = pairs_are (number_from 0 ds) n (behind_digits bytes) rest same in
        let k = both (is_numeral ds && nat_le 1 (number_from 0 ds)) (nat_le (number_from 0 ds) greatest) is in
        let j = both (is_numeral ds) (nat_le 1 (number_from 0 ds)) k.0 in
        let low : 1 ≤ number_from 0 ds = (let h = j.1 in grind (arith, nat_tests)) in
        let high : number_from 0 ds ≤ greatest = (let h = k.1 in grind (arith, nat_tests)) in (
          subst (InRange greatest) p.0 (low, high),
          front-rest is_ascii_digit bytes
              ∙ ap (λ z. z ++ behind_digits bytes) (digits_are_decimal ds (front_of-passes is_ascii_digit bytes) j.0 (omega (arith, low, high)))
              ∙ ap (λ m. decimal m ++ behind_digits bytes) p.0 ∙ ap (λ r. decimal n ++ r) p.1,
        )
    chosen (inr (is, same)) = absurd (cc)

-- ---- behind a word

after_front-written : (word rest : List ℕ) → after_front word (word ++ rest) ≡ Some rest
after_front-written word rest =
    ap (λ z. cond (pointwise ◌==◌ z word) (Some (drop (length word) (word ++ rest))) None) (take-append_seam word rest)
    ∙ ap (λ p. cond p (Some (drop (length word) (word ++ rest))) None) ((slice_eq-Decides Decides-eqb word word (pointwise ◌==◌ word word) refl).1 refl)
    ∙ ap Some (drop-append_seam word rest)

after_front-is : (word bytes rest : List ℕ) → after_front word bytes ≡ Some rest → bytes ≡ word ++ rest
after_front-is word bytes rest e =
    by_test (pointwise ◌==◌ (take (length word) bytes) word) (λ p. pointwise ◌==◌ (take (length word) bytes) word ≡ p → cond p (Some (drop (length word) bytes)) None ≡ Some rest → bytes ≡ word ++ rest)
    (λ is k h.
    let same = (slice_eq-Decides Decides-eqb (take (length word) bytes) word (pointwise ◌==◌ (take (length word) bytes) word) refl).0 is in
    let behind : drop (length word) bytes ≡ rest = cc in
    sym (take-append-drop (length word) bytes) ∙ ap (λ z. z ++ drop (length word) bytes) same ∙ ap (λ z. word ++ z) behind)
    (λ is k h. absurd (cc)) refl e

pub number_behind-written : (word rest : List ℕ) (greatest n : ℕ) → greatest < 2 ^ 63 → InRange greatest n → Stops is_ascii_digit rest
    → number_behind word greatest (word ++ (decimal n ++ rest)) ≡ Some (n, rest)
number_behind-written word rest greatest n small range stops =
    bind_some (after_front word (word ++ (decimal n ++ rest))) (decimal n ++ rest) (number_first greatest) (after_front-written word (decimal n ++ rest))
    ∙ number_first-written greatest n rest small range stops

pub number_behind-is : (word bytes rest : List ℕ) (greatest n : ℕ) → greatest < 2 ^ 63 → number_behind word greatest bytes ≡ Some (n, rest)
    → InRange greatest n × (bytes ≡ word ++ (decimal n ++ rest))
number_behind-is word bytes rest greatest n small e =
    let b = bind_is (after_front word bytes) (number_first greatest) (n, rest) e in
    let k = number_first-is greatest n b.0 rest small b.2 in
    (k.0, after_front-is word bytes b.0 b.1 ∙ ap (λ z. word ++ z) k.1)

-- ---- behind a word, with nothing behind it

not_ended : (n m x : ℕ) (rest : List ℕ) → cond (length (x ∷ rest) == 0) (Some n) None ≡ Some m → ⊥
not_ended n m x rest e =
    let k : (length (x ∷ rest) == 0) ≡ false = grind (arith, nat_tests) in
    let j : ◌≡◌ {A = Option ℕ} None (Some m) = sym (ap (λ p. cond p (Some n) None) k) ∙ e in absurd (cc)

ended_is : (n m : ℕ) → ◌≡◌ {A = Option ℕ} (Some n) (Some m) → n ≡ m
ended_is n m e = cc

pub number_alone-written : (word : List ℕ) (greatest n : ℕ) → greatest < 2 ^ 63 → InRange greatest n → number_alone word greatest (word ++ decimal n) ≡ Some n
number_alone-written word greatest n small range =
    bind_some (number_behind word greatest (word ++ decimal n)) (n, []) (λ c. cond (length c.1 == 0) (Some c.0) None)
    (subst (λ z. number_behind word greatest (word ++ z) ≡ Some (n, [])) (append-nil (decimal n)) (number_behind-written word [] greatest n small range tt))

pub number_alone-is : (word bytes : List ℕ) (greatest m : ℕ) → greatest < 2 ^ 63 → number_alone word greatest bytes ≡ Some m → InRange greatest m × (bytes ≡ word ++ decimal m)
number_alone-is word bytes greatest m small e =
    let b = bind_is (number_behind word greatest bytes) (λ c. cond (length c.1 == 0) (Some c.0) None) m e in
    at b.0.0 b.0.1 b.1 b.2
  where
    at : (n : ℕ) (rest : List ℕ) → number_behind word greatest bytes ≡ Some (n, rest) → cond (length rest == 0) (Some n) None ≡ Some m → InRange greatest m × (bytes ≡ word ++ decimal m)
    at n [] is same =
        let k = number_behind-is word bytes [] greatest n small is in
        let e = ended_is n m same in
        (subst (InRange greatest) e k.0, k.1 ∙ ap (λ z. word ++ z) (append-nil (decimal n)) ∙ ap (λ z. word ++ decimal z) e)
    at n (x ∷ rest) is same = absurd (not_ended n m x rest same)

-- what a call that reads such a line gives
pub number_read : (word line : List ℕ) (greatest : ℕ) (found : Option ℕ) → greatest < 2 ^ 63 → found ≡ number_alone word greatest line
    → MatchOption found (IsNumbered (λ n. word ++ decimal n) greatest line → ⊥) (λ n. InRange greatest n × (line ≡ word ++ decimal n))
number_read word line greatest None small e = λ h. let n = h.0 in let range = h.1 in let is = h.2 in
    let k : ◌≡◌ {A = Option ℕ} None (Some n) = e ∙ ap (number_alone word greatest) is ∙ number_alone-written word greatest n small range in absurd (cc)
number_read word line greatest (Some m) small e = number_alone-is word line greatest m small (sym e)

pub digits_pass : (bytes digits : List ℕ) → digits ≡ digits_of bytes → AllPass is_ascii_digit digits
digits_pass bytes digits e = subst (AllPass is_ascii_digit) (sym e) (front_of-passes is_ascii_digit bytes)
