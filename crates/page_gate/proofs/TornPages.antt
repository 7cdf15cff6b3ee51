-- What torn pages are.
use Rattle.page_gate.proofs.Names.{◌≡◌, ◌≢◌, ◌⊎◌, inl, inr, ℕ, suc, ◌+◌, ◌-◌, ◌≤◌, List, [], ◌∷◌, ◌++◌, length, get_or, take, drop, true, false, refl, sym, ◌∙◌, ap, arith, replicate, drop-replicate, is_blank, state_of, IsPutPage, splice}
use Rattle.std.proofs.lemmas.Bool.{cases_eq, cases_Bool, cond-true, cond-false, ne_eqb, eq-eqb, eqb-true, and_parts}
use Rattle.page_gate.specs.declared.pages.PageState.TheVariants.{Blank, Spoiled, Gated}

pub blank_is : (xs : List ℕ) → is_blank xs ≡ true → xs ≡ replicate (length xs) 0
blank_is [] h = refl
blank_is (x ∷ xs) h =
    let parts = and_parts _ _ h in
    let first : x ≡ 0 = eqb-true x 0 parts.0 in
    let rest : xs ≡ replicate (length xs) 0 = blank_is xs parts.1 in
    ap (λ (y : ℕ). y ∷ xs) first ∙ ap (λ (ys : List ℕ). 0 ∷ ys) rest

pub blank_state : (page : List ℕ) → is_blank page ≡ true → state_of page ≡ Blank
blank_state page all_zero = cond-true (is_blank page) _ _ all_zero

-- a page with another first byte
pub not_gated : (b : ℕ) (rest : List ℕ) → b ≢ 165 → (state_of (b ∷ rest) ≡ Blank) ⊎ (state_of (b ∷ rest) ≡ Spoiled)
not_gated b rest ne = elim (cases_Bool (is_blank (b ∷ rest))) [
  | inl all_zero ↦ inl (cond-true (is_blank (b ∷ rest)) _ _ all_zero)
  | inr some_set ↦ inr (cond-false (is_blank (b ∷ rest)) _ _ some_set ∙ cond-false _ _ _ (ne_eqb b 165 ne))
]

-- the gate stays closed while the body is written
pub torn_body : (bytes page : List ℕ) → take 1 bytes ≡ take 1 page → is_blank page ≡ true → 1 ≤ length page → (state_of bytes ≡ Blank) ⊎ (state_of bytes ≡ Spoiled)
torn_body bytes [] e blank long = absurd (omega arith)
torn_body [] (p ∷ page) e blank long = absurd (cc e)
torn_body (b ∷ bytes) (p ∷ page) e blank long =
    let zero_p : p ≡ 0 = eqb-true p 0 (and_parts _ _ blank).0 in
    let same : b ≡ p = cc e in
    not_gated b bytes (λ is. omega (arith, is, same, zero_p))

-- the body stands whole while the gate is written
pub torn_gate : (bytes body : List ℕ) → drop 1 bytes ≡ body ++ replicate (4095 - length body) 0 → 1 ≤ length bytes → IsPutPage body bytes
torn_gate [] body e long = absurd (omega arith)
torn_gate (b ∷ bytes) body e long = elim (cases_eq b 165) [
  | inl open_gate ↦ inr (ap (λ (x : ℕ). x ∷ bytes) open_gate ∙ ap (λ (l : List ℕ). 165 ∷ l) e)
  | inr shut ↦ inl (not_gated b bytes shut)
]

abbrev pub staged_page : List ℕ → List ℕ
staged_page body = 0 ∷ body ++ replicate (4095 - length body) 0

pub body_page : (page body : List ℕ) → is_blank page ≡ true → length page ≡ 4096 → length body ≤ 4095 → splice page 1 body ≡ staged_page body
body_page [] body blank size most = absurd (omega arith)
body_page (p ∷ page) body blank size most =
    let zero_p : p ≡ 0 = eqb-true p 0 (and_parts _ _ blank).0 in
    let zeros : page ≡ replicate (length page) 0 = blank_is page (and_parts _ _ blank).1 in
    let n : length page - length body ≡ 4095 - length body = omega arith in
    let dropped : drop (1 + length body) (p ∷ page) ≡ replicate (4095 - length body) 0 =
    ap (λ (k : ℕ). drop k (p ∷ page)) (omega_one (length body)) ∙ ap (λ (l : List ℕ). drop (length body) l) zeros ∙ drop-replicate (length body) (length page) 0 ∙ ap (λ (k : ℕ). replicate k 0) n in
    ap (λ (x : ℕ). ((x ∷ []) ++ body) ++ drop (1 + length body) (p ∷ page)) zero_p ∙ ap (λ (l : List ℕ). 0 ∷ body ++ l) dropped
  where
    omega_one : (k : ℕ) → 1 + k ≡ suc k
    omega_one k = omega arith
