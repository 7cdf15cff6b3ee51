-- What homes say of an archive's attempts, mark by mark.
use Rattle.archive_store.proofs.Names.{◌≡◌, ℕ, zero, suc, ◌+◌, ◌-◌, ◌<◌, ◌≤◌, arith, subst, Bool, false, List, [], ◌∷◌, ◌++◌, reverse, take, length, slice_index_or, refl, sym, ◌∙◌, ap, Option, Some, None, reverse-append, Mark, Put, Stretch, Settle, Floor, floor_of}
use Rattle.std.proofs.lemmas.Bool.Decides.{nat_tests}
use Rattle.std.proofs.lemmas.List.{reverse-reverse}
use Rattle.std.specs.Prelude.{get_or, nat_lt}
use Rattle.pseudo_time.specs.StampParts.{StampParts}
use Rattle.archive_store.specs.Homes.{as_mark, at_home, unless_known}
unfoldable use Rattle.object_history.specs.History.{settle_of}
unfoldable use Rattle.archive_store.specs.Homes.{from_homes}
use Rattle.archive_store.proofs.ArchiveLemmas.{floor-both}
use Rattle.archive_store.proofs.JoinLemmas.{append-assoc, append-none, reverse-step, take-end}

module _ (settled home : StampParts → Option Bool) where
  one-back : (s : StampParts) (d : Option Bool) → reverse (as_mark s d) ≡ as_mark s d ++ []
  one-back s None = refl
  one-back s (Some c) = refl

  -- one mark more
  from-step : (f : Mark) (m : List Mark) → reverse (from_homes settled home (f ∷ m)) ≡ reverse (from_homes settled home m) ++ from_homes settled home (f ∷ [])
  unfolding from_homes
  from-step (Put o x v) m =
      let d = unless_known (settled x.stamp) (home x.stamp) in
      reverse-append (as_mark x.stamp d) (from_homes settled home m) ∙ ap (λ z. reverse (from_homes settled home m) ++ z) (one-back x.stamp d)
  from-step (Stretch o x) m = sym (append-none (reverse (from_homes settled home m)))
  from-step (Settle s c) m = sym (append-none (reverse (from_homes settled home m)))
  from-step (Floor z) m = sym (append-none (reverse (from_homes settled home m)))

  pub told-step : (log : List Mark) (i : ℕ) (f : Mark) (front old new : List Mark) → i < length log → f ≡ slice_index_or log i f → old ≡ front ++ reverse (from_homes settled home (reverse (take i log))) →
      new ≡ old ++ from_homes settled home (f ∷ []) → new ≡ front ++ reverse (from_homes settled home (reverse (take (i + 1) log)))
  told-step log i f front old new low is h k =
      k ∙ ap (λ z. z ++ from_homes settled home (f ∷ [])) h
      ∙ append-assoc front (reverse (from_homes settled home (reverse (take i log)))) (from_homes settled home (f ∷ []))
      ∙ ap (λ z. front ++ z) (sym (from-step f (reverse (take i log))) ∙ ap (λ z. reverse (from_homes settled home z)) (sym (reverse-step log i f low is)))

  -- a decision is no floor
  pub from-unretired : (m : List Mark) → floor_of (from_homes settled home m) ≡ None
  unfolding from_homes floor_of
  from-unretired [] = refl
  from-unretired (Put o x v ∷ m) = floor-both (as_mark x.stamp (unless_known (settled x.stamp) (home x.stamp))) (from_homes settled home m) (one x.stamp (unless_known (settled x.stamp) (home x.stamp))) (from-unretired m)
    where
      one : (s : StampParts) (d : Option Bool) → floor_of (as_mark s d) ≡ None
      one s None = refl
      one s (Some c) = refl
  from-unretired (Stretch o x ∷ m) = from-unretired m
  from-unretired (Settle s c ∷ m) = from-unretired m
  from-unretired (Floor z ∷ m) = from-unretired m

  pub told-unretired : (m : List Mark) → floor_of m ≡ None → floor_of (from_homes settled home m ++ m) ≡ None
  told-unretired m h = floor-both (from_homes settled home m) m (from-unretired m) h

  pub told-none : (front shown new : List Mark) → shown ≡ front → new ≡ shown → new ≡ front ++ reverse (from_homes settled home [])
  unfolding from_homes
  told-none front shown new same h = h ∙ same ∙ sym (append-none front)

  pub told-next : (shown log : List Mark) (i : ℕ) (f : Mark) (front old new : List Mark) → shown ≡ log → i < length shown → f ≡ slice_index_or shown i f →
      old ≡ front ++ reverse (from_homes settled home (reverse (take i log))) → new ≡ old ++ from_homes settled home (f ∷ []) → new ≡ front ++ reverse (from_homes settled home (reverse (take (i + 1) log)))
  told-next shown log i f front old new same low is h k = told-step log i f front old new (subst (λ z. i < length z) same low) (subst (λ z. f ≡ slice_index_or z i f) same is) h k

  -- so none is among all of them
  pub whole-unretired : (shown log : List Mark) (i : ℕ) (marks : List Mark) → shown ≡ log → length shown ≤ i → marks ≡ log ++ reverse (from_homes settled home (reverse (take i log))) → floor_of (reverse log) ≡ None → floor_of (reverse marks) ≡ None
  whole-unretired shown log i marks same low h plain =
      ap (λ z. floor_of (reverse z)) (h ∙ ap (λ z. log ++ reverse (from_homes settled home (reverse z))) (take-end log i (subst (λ z. length z ≤ i) same low)))
      ∙ ap floor_of (reverse-append log (reverse (from_homes settled home (reverse log))) ∙ ap (λ z. z ++ reverse log) (reverse-reverse (from_homes settled home (reverse log))))
      ∙ told-unretired (reverse log) plain

-- ---- the home's archive

beyond : (xs : List (List Mark)) (i : ℕ) → length xs ≤ i → get_or xs i [] ≡ []
beyond [] i low = refl
beyond (x ∷ xs) zero low = absurd (omega (arith, low))
beyond (x ∷ xs) (suc i) low = beyond xs i (omega (arith, low))

-- there is none
pub none-there : (known : List (List Mark)) (s : StampParts) (h k : ℕ) → h ≡ s.home → k ≡ h → (k ≡ 0 → ⊥) → false ≡ nat_lt (k - 1) (length known) → None ≡ at_home known s
unfolding settle_of
none-there known s h k is same some low = sym (ap (λ xs. settle_of (reverse xs) s) (ap (λ n. get_or ([] ∷ known) n []) (sym is ∙ sym same) ∙ beyond ([] ∷ known) k (long k some low)))
  where
    long : (n : ℕ) → (n ≡ 0 → ⊥) → false ≡ nat_lt (n - 1) (length known) → length ([] ∷ known) ≤ n
    long n a b = grind (arith, nat_tests)
