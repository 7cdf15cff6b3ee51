-- Numbers of which no two are the same.
use Rattle.seat_lock.proofs.Names.{◌≡◌, ◌≢◌, ℕ, suc, ◌≤◌, List, [], ◌∷◌, All, refl, sym, subst, arith, AllPairs, total, same}
use native.Mathlib.Decide.{ℕ_discrete}

same_apart : (a b : ℕ) → a ≢ b → same a b ≡ 0
same_apart a b h = omega (arith, h)

none_same : (x : ℕ) (xs : List ℕ) → All (λ y. x ≢ y) xs → total (same x) xs ≡ 0
none_same x [] h = refl
none_same x (y ∷ ys) h = let apart : x ≢ y = h 0 x (omega arith) in omega (arith, same_apart x y apart, none_same x ys (λ k d lt. h (suc k) d (omega arith)))

at_most : (x o : ℕ) (xs : List ℕ) → total (same x) xs ≡ 0 → total (same o) xs ≤ 1 → Dec (o ≡ x) → total (same o) (x ∷ xs) ≤ 1
at_most x o xs none rest (yes e) = let moved : total (same o) xs ≡ 0 = subst (λ n. total (same n) xs ≡ 0) (sym e) none in omega (arith, moved)
at_most x o xs none rest (no differs) = omega (arith, rest, same_apart o x differs)

-- no number is twice in the list
pub at_most_once : (xs : List ℕ) → AllPairs (λ a b. a ≢ b) xs → (o : ℕ) → total (same o) xs ≤ 1
at_most_once [] h o = omega arith
at_most_once (x ∷ xs) h o = at_most x o xs (none_same x xs (λ k d lt. h 0 (suc k) d (omega arith) (omega arith))) (at_most_once xs (λ i j d lt within. h (suc i) (suc j) d (omega arith) (omega arith)) o) (ℕ_discrete o x)
