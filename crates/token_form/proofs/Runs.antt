-- Runs of bytes at the front of a list.
use Rattle.token_form.proofs.Names.{◌≡◌, ℕ, suc, ◌+◌, ◌*◌, ◌-◌, ◌<◌, ◌≤◌, ◌⊎◌, inl, inr, Option, Some, None, Bool, true, false, cond, List, [], ◌∷◌, ◌++◌, length, get_or, drop, refl, ap, arith, ◌&&◌, ◌||◌, not, list_all, Token, AllPass, number_from, Spells, Ends, front_of, rest_of}
use Rattle.std.proofs.Math.Seq.{drop-cons}

-- whether it passes, with the fact
pub by_test : (p : Bool) (P : Bool → Type 0) → (p ≡ true → P true) → (p ≡ false → P false) → P p
by_test true P yes_case no_case = yes_case refl
by_test false P yes_case no_case = no_case refl

pub if_true : {A : Type 0} (p : Bool) (x y : A) → p ≡ true → cond p x y ≡ x
if_true true x y e = refl
if_true false x y e = absurd (cc)

pub if_false : {A : Type 0} (p : Bool) (x y : A) → p ≡ false → cond p x y ≡ y
if_false true x y e = absurd (cc)
if_false false x y e = refl

-- which of the two was taken
pub split_if : {A : Type 0} (p : Bool) (x y r : A) → cond p x y ≡ r → ((p ≡ true) × (x ≡ r)) ⊎ ((p ≡ false) × (y ≡ r))
split_if true x y r e = inl (refl, e)
split_if false x y r e = inr (refl, e)

pub some_is : {A : Type 0} (x y : A) → ◌≡◌ {A = Option A} (Some x) (Some y) → x ≡ y
some_is x y e = cc

pub not_true : (p : Bool) → not p ≡ true → p ≡ false
not_true true e = absurd (cc)
not_true false e = refl

pub both : (p q : Bool) → (p && q) ≡ true → (p ≡ true) × (q ≡ true)
both true q e = (refl, e)
both false q e = absurd (cc)

pub neither : (p q : Bool) → (p || q) ≡ false → (p ≡ false) × (q ≡ false)
neither true q e = absurd (cc)
neither false q e = (refl, e)

-- an option, with what it is
pub by_option : {A : Type 0} (o : Option A) (P : Option A → Type 0) → P None → ((x : A) → o ≡ Some x → P (Some x)) → P o
by_option None P none some = none
by_option (Some x) P none some = some x refl

-- the bytes begin with a spelling of the token, and this follows it
abbrev pub Fronted : List ℕ → Token → List ℕ → Type 0
Fronted bytes token rest = (front : List ℕ) × (bytes ≡ front ++ rest) × Spells token front × Ends token rest

pub front_of-passes : (test : ℕ → Bool) (bytes : List ℕ) → AllPass test (front_of test bytes)
front_of-passes test [] = tt
front_of-passes test (b ∷ bs) = by_test (test b) (λ p. AllPass test (cond p (b ∷ front_of test bs) [])) (λ e. (e, front_of-passes test bs)) (λ e. tt)

-- more digits give no smaller number
pub number_from-le : (n : ℕ) (digits : List ℕ) → n ≤ number_from n digits
number_from-le n [] = omega arith
number_from-le n (d ∷ ds) = omega (arith, number_from-le (n * 10 + (d - 48)) ds)

pub number_from-drop : (n : ℕ) (digits : List ℕ) (i : ℕ) → i < length digits → number_from n (drop i digits) ≡ number_from (n * 10 + (get_or digits i 0 - 48)) (drop (suc i) digits)
number_from-drop n digits i h = ap (number_from n) (drop-cons digits i 0 h)

-- ---- a run, and what stops it

abbrev pub Stops : (ℕ → Bool) → List ℕ → Type 0
Stops test [] = Unit {0}
Stops test (b ∷ bs) = test b ≡ false

pub rest_of-stops : (test : ℕ → Bool) (bytes : List ℕ) → Stops test (rest_of test bytes)
rest_of-stops test [] = tt
rest_of-stops test (b ∷ bs) = by_test (test b) (λ p. Stops test (cond p (rest_of test bs) (b ∷ bs))) (λ e. rest_of-stops test bs) (λ e. e)

pub front-rest : (test : ℕ → Bool) (bytes : List ℕ) → bytes ≡ front_of test bytes ++ rest_of test bytes
front-rest test [] = refl
front-rest test (b ∷ bs) = by_test (test b) (λ p. b ∷ bs ≡ cond p (b ∷ front_of test bs) [] ++ cond p (rest_of test bs) (b ∷ bs)) (λ e. ap (λ z. b ∷ z) (front-rest test bs)) (λ e. refl)

pub front_of-run : (test : ℕ → Bool) (run rest : List ℕ) → AllPass test run → Stops test rest → front_of test (run ++ rest) ≡ run
front_of-run test [] [] p s = refl
front_of-run test [] (b ∷ bs) p s = rw s refl
front_of-run test (x ∷ run) rest p s = rw p.0 (ap (λ z. x ∷ z) (front_of-run test run rest p.1 s))

pub rest_of-run : (test : ℕ → Bool) (run rest : List ℕ) → AllPass test run → Stops test rest → rest_of test (run ++ rest) ≡ rest
rest_of-run test [] [] p s = refl
rest_of-run test [] (b ∷ bs) p s = rw s refl
rest_of-run test (x ∷ run) rest p s = rw p.0 (rest_of-run test run rest p.1 s)

pub AllPass-from : (test : ℕ → Bool) (bytes : List ℕ) → list_all test bytes ≡ true → AllPass test bytes
AllPass-from test [] e = tt
AllPass-from test (b ∷ bs) e = let k = both (test b) (list_all test bs) e in (k.0, AllPass-from test bs k.1)
