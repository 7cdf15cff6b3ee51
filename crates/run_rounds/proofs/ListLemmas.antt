-- Lists, lists beside each other, and what holds of each element.
use Rattle.run_rounds.proofs.Names.{Has, Along, ◌≡◌, ◌<◌, ◌+◌, ◌++◌, ◌∙◌, ℕ, zero, suc, Bool, true, false, List, [], ◌∷◌, Some, length, map, get_or, slice_get, ◌||◌, inl, inr, refl, ap, subst, arith, All, AllZip, list_any, All-nil, All-cons, same_Some}

-- ---- what holds of each element

pub all-first : {A : Type 0} (P : A → Type 0) (x : A) (xs : List A) → All P (x ∷ xs) → P x
all-first P x xs h = h 0 x (omega arith)

pub all-rest : {A : Type 0} (P : A → Type 0) (x : A) (xs : List A) → All P (x ∷ xs) → All P xs
all-rest P x xs h = λ k d lt. h (suc k) d (omega (arith, lt))

pub all-front : {A : Type 0} (P : A → Type 0) (xs ys : List A) → All P (xs ++ ys) → All P xs
all-front P [] ys h = All-nil P
all-front P (x ∷ xs) ys h = All-cons P x xs (all-first P x (xs ++ ys) h) (all-front P xs ys (all-rest P x (xs ++ ys) h))

pub all-end : {A : Type 0} (P : A → Type 0) (xs : List A) (y : A) → All P (xs ++ y ∷ []) → P y
all-end P [] y h = all-first P y [] h
all-end P (x ∷ xs) y h = all-end P xs y (all-rest P x (xs ++ y ∷ []) h)

pub all-mapped : {A B : Type 0} (P : B → Type 0) (f : A → B) (xs : List A) → All P (map f xs) → All (λ x. P (f x)) xs
all-mapped P f [] h = All-nil (λ x. P (f x))
all-mapped P f (x ∷ xs) h = All-cons (λ x. P (f x)) x xs (all-first P (f x) (map f xs) h) (all-mapped P f xs (all-rest P (f x) (map f xs) h))

-- one of those of which something holds
pub one-of : {A : Type 0} (P : A → Type 0) (xs : List A) (i : ℕ) (x : A) → All P xs → i < length xs → get_or xs i x ≡ x → P x
one-of P xs i x all lt is = subst P is (all i x lt)

-- ---- what stands in a list

pub any-has : {A : Type 0} (p : A → Bool) (xs : List A) (x : A) → Has x xs → p x ≡ true → list_any p xs ≡ true
any-has p [] x h is = absurd h
any-has p (y ∷ ys) x (inl e) is = ap (λ (t : Bool). t || list_any p ys) (ap p e ∙ is)
any-has p (y ∷ ys) x (inr later) is = ap (λ (t : Bool). p y || t) (any-has p ys x later is) ∙ or-true (p y)
  where
    or-true : (b : Bool) → (b || true) ≡ true
    or-true true = refl
    or-true false = refl

-- ---- places

pub get-mapped : {A B : Type 0} (f : A → B) (xs : List A) (i : ℕ) (x : A) → slice_get xs i ≡ Some x → slice_get (map f xs) i ≡ Some (f x)
get-mapped f [] i x e = absurd cc
get-mapped f (y ∷ xs) zero x e = ap (λ z. Some (f z)) (same_Some _ _ e)
get-mapped f (y ∷ xs) (suc i) x e = get-mapped f xs i x e

-- what stands beside each other in a place
pub along-at : {A B : Type 0} (R : ℕ → A → B → Type 0) (i : ℕ) (xs : List A) (ys : List B) (k : ℕ) → Along R i xs ys → k < length xs
    → (x : A) × (y : B) × (slice_get xs k ≡ Some x) × (slice_get ys k ≡ Some y) × R (i + k) x y
along-at R i [] ys k h lt = absurd (omega (arith, lt))
along-at R i (x ∷ xs) [] k h lt = absurd h
along-at R i (x ∷ xs) (y ∷ ys) zero h lt = (x, y, refl, refl, subst (λ (n : ℕ). R n x y) (omega arith) h.0)
along-at R i (x ∷ xs) (y ∷ ys) (suc k) h lt =
    let r = along-at R (suc i) xs ys k h.1 (omega (arith, lt)) in
    (r.0, r.1, r.2, r.3, subst (λ (n : ℕ). R n r.0 r.1) (omega arith) r.4)

-- from lists beside each other by their places to what is made of the second
pub along-mapped : {A B C : Type 0} (R : ℕ → A → B → Type 0) (Q : A → C → Type 0) (f : B → C) → ((i : ℕ) (x : A) (y : B) → R i x y → Q x (f y)) → (i : ℕ) (xs : List A) (ys : List B) → Along R i xs ys → AllZip Q xs (map f ys)
along-mapped R Q f k i [] [] h = tt
along-mapped R Q f k i [] (y ∷ ys) h = absurd h
along-mapped R Q f k i (x ∷ xs) [] h = absurd h
along-mapped R Q f k i (x ∷ xs) (y ∷ ys) h = (k i x y h.0, along-mapped R Q f k (suc i) xs ys h.1)

-- and back
pub along-unmapped : {A B C : Type 0} (R : ℕ → A → C → Type 0) (f : B → C) (i : ℕ) (xs : List A) (ys : List B) → Along R i xs (map f ys) → Along (λ k x y. R k x (f y)) i xs ys
along-unmapped R f i [] [] h = tt
along-unmapped R f i [] (y ∷ ys) h = absurd h
along-unmapped R f i (x ∷ xs) [] h = absurd h
along-unmapped R f i (x ∷ xs) (y ∷ ys) h = (h.0, along-unmapped R f (suc i) xs ys h.1)
