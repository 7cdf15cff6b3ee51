-- What stands at a number of a list, and fronts of lists.
use Rattle.world_core.proofs.Names.{◌≡◌, ℕ, zero, suc, ◌≤◌, List, [], ◌∷◌, ◌++◌, length, map, refl, ap, ◌∙◌, Some, slice_get, arith, numbered}

module _ {X : Type 0} where
  slice-append : (xs ys : List X) (i : ℕ) (x : X) → slice_get xs i ≡ Some x → slice_get (xs ++ ys) i ≡ Some x
  slice-append [] ys i x h = absurd (cc h)
  slice-append (y ∷ xs) ys zero x h = h
  slice-append (y ∷ xs) ys (suc i) x h = slice-append xs ys i x h

  -- what stands at a number stays there when more is added
  pub numbered-append : (xs ys : List X) (k : ℕ) (x : X) → numbered xs k ≡ Some x → numbered (xs ++ ys) k ≡ Some x
  numbered-append xs ys zero x h = absurd (cc h)
  numbered-append xs ys (suc k) x h = slice-append xs ys k x h

module _ {X Y : Type 0} where
  slice-front : (xs ys : List X) (zs : List Y) (i : ℕ) (x : X) (z : Y) → length zs ≤ length xs → slice_get zs i ≡ Some z → slice_get (xs ++ ys) i ≡ Some x → slice_get xs i ≡ Some x
  slice-front xs ys [] i x z most at here = absurd (cc at)
  slice-front [] ys (w ∷ zs) i x z most at here = absurd (omega (arith, most))
  slice-front (y ∷ xs) ys (w ∷ zs) zero x z most at here = here
  slice-front (y ∷ xs) ys (w ∷ zs) (suc i) x z most at here = slice-front xs ys zs i x z (omega (arith, most)) at here

  -- what stands at a number that another list has, too, stands already in a front that is no shorter than that list
  pub numbered-front : (xs ys : List X) (zs : List Y) (k : ℕ) (x : X) (z : Y) → length zs ≤ length xs → numbered zs k ≡ Some z → numbered (xs ++ ys) k ≡ Some x → numbered xs k ≡ Some x
  numbered-front xs ys zs zero x z most at here = absurd (cc at)
  numbered-front xs ys zs (suc k) x z most at here = slice-front xs ys zs k x z most at here

  -- a prefix of what a map gives is what it gives of a front
  pub map-front : (f : X → Y) (xs : List X) (ys zs : List Y) → map f xs ≡ ys ++ zs → (us vs : List X) × (xs ≡ us ++ vs) × (map f us ≡ ys)
  map-front f xs [] zs h = ([], xs, refl, refl)
  map-front f [] (y ∷ ys) zs h = absurd (cc h)
  map-front f (x ∷ xs) (y ∷ ys) zs h =
      let r : (us vs : List X) × (xs ≡ us ++ vs) × (map f us ≡ ys) = map-front f xs ys zs (cc h) in
      (x ∷ r.0, r.1, ap (λ l. x ∷ l) r.2, joined (f x) y (map f r.0) ys (cc h) r.3)
    where
      joined : (a b : Y) (xs ys : List Y) → a ≡ b → xs ≡ ys → a ∷ xs ≡ b ∷ ys
      joined a b xs ys p q = ap (λ c. c ∷ xs) p ∙ ap (λ cs. b ∷ cs) q
