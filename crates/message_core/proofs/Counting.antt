-- How often a number stands in a list.
use Rattle.message_core.proofs.Names.{◌≡◌, ℕ, zero, suc, ◌+◌, ◌-◌, ◌==◌, Bool, true, false, cond, List, [], ◌∷◌, ◌++◌, length, take, drop, refl, sym, ap, ◌∙◌, arith, put, puts, count}

pub count-append : (k : ℕ) (xs ys : List ℕ) → count k (xs ++ ys) ≡ count k xs + count k ys
count-append k [] ys = omega arith
count-append k (x ∷ xs) ys = let h = count-append k xs ys in omega (arith, h)

split : (n : ℕ) (xs : List ℕ) → take n xs ++ drop n xs ≡ xs
split zero xs = refl
split (suc n) [] = refl
split (suc n) (x ∷ xs) = ap (λ z. x ∷ z) (split n xs)

pub count-split : (k n : ℕ) (xs : List ℕ) → count k (take n xs) + count k (drop n xs) ≡ count k xs
count-split k n xs = sym (count-append k (take n xs) (drop n xs)) ∙ ap (count k) (split n xs)

count-put : (k number overtake : ℕ) (queue : List ℕ) → count k (put number overtake queue) ≡ cond (number == k) 1 0 + count k queue
count-put k number overtake queue =
    let at = length queue - overtake in
    let a = count-append k (take at queue) (number ∷ drop at queue) in
    let b = count-split k at queue in
    omega (arith, a, b)

nothing : (b : Bool) → ◌≡◌ {A = ℕ} (cond b 0 0) 0
nothing true = refl
nothing false = refl

once_more : (b : Bool) (n : ℕ) → cond b n 0 + cond b 1 0 ≡ cond b (suc n) 0
once_more true n = omega arith
once_more false n = refl

pub count-puts : (k n number overtake : ℕ) (queue : List ℕ) → count k (puts n number overtake queue) ≡ cond (number == k) n 0 + count k queue
count-puts k zero number overtake queue = let h = nothing (number == k) in omega (arith, h)
count-puts k (suc n) number overtake queue =
    let a = count-puts k n number overtake (put number overtake queue) in
    let b = count-put k number overtake queue in
    let c = once_more (number == k) n in
    omega (arith, a, b, c)
