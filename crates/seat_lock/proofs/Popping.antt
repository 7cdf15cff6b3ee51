-- A list without its last element, seen through a function.
use Rattle.seat_lock.proofs.Names.{◌≡◌, ℕ, ◌-◌, List, [], ◌∷◌, ◌++◌, All, append-nil, length, map, take, get_or, refl, sym, ap, ◌∙◌, subst, arith, length-append, length-map, Seat, View, Known, knows, fresh}
use Rattle.seat_lock.proofs.Gathering.{all_middle, all_before}

module _ {A : Type 0} (f : A → ℕ) (p : A) where
  front_of : (qs : List A) → map f qs ≡ take (length qs) (map f (qs ++ p ∷ []))
  front_of [] = refl
  front_of (q ∷ qs) = ap (λ l. f q ∷ l) (front_of qs)

  last_of : (qs : List A) → get_or (map f (qs ++ p ∷ [])) (length qs) 0 ≡ f p
  last_of [] = refl
  last_of (q ∷ qs) = last_of qs

  one_less : (qs ps : List A) → ps ≡ qs ++ p ∷ [] → length qs ≡ length ps - 1
  one_less qs ps is = omega (arith, ap length is, length-append qs (p ∷ []))

  pub popped_rest : (qs ps : List A) → ps ≡ qs ++ p ∷ [] → map f qs ≡ take (length ps - 1) (map f ps)
  popped_rest qs ps is = front_of qs ∙ (ap (λ l. take (length qs) (map f l)) (sym is) ∙ ap (λ n. take n (map f ps)) (one_less qs ps is))

  pub popped_last : (qs ps : List A) → ps ≡ qs ++ p ∷ [] → get_or (map f ps) (length ps - 1) 0 ≡ f p
  popped_last qs ps is = ap (λ n. get_or (map f ps) n 0) (sym (one_less qs ps is)) ∙ (ap (λ l. get_or (map f l) (length qs) 0) is ∙ last_of qs)

module _ {A : Type 0} (f : A → ℕ) (ps : List A) (os : List ℕ) (are : map f ps ≡ os) where
  as_many : length ps ≡ length os
  as_many = sym (length-map ps f) ∙ ap length are

  pub owner_last : get_or (map f ps) (length ps - 1) 0 ≡ get_or os (length os - 1) 0
  owner_last = ap (λ l. get_or l (length ps - 1) 0) are ∙ ap (λ n. get_or os (n - 1) 0) as_many

  pub owners_front : (qs : List A) → map f qs ≡ take (length ps - 1) (map f ps) → map f qs ≡ take (length os - 1) os
  owners_front qs is = is ∙ (ap (λ l. take (length ps - 1) l) are ∙ ap (λ n. take (n - 1) os) as_many)

fresh_owner : {T : Type 0} (E : Type 0) (base : T) (os : List ℕ) → map (λ (k : Known T E). k.owner) (map (fresh base) os) ≡ os
fresh_owner E base [] = refl
fresh_owner E base (o ∷ os) = ap (λ l. o ∷ l) (fresh_owner E base os)

module _ {T E : Type 0} where
  each_owner : (ps : List (Seat T (View T E))) → map (λ p. (knows p).owner) ps ≡ map (λ (k : Known T E). k.owner) (map knows ps)
  each_owner [] = refl
  each_owner (p ∷ ps) = ap (λ l. (knows p).owner ∷ l) (each_owner ps)

  -- the owners of new passes are those that the lock was made for
  pub owners_are : (base : T) (os : List ℕ) (ps : List (Seat T (View T E))) → map knows ps ≡ map (fresh base) os → map (λ p. (knows p).owner) ps ≡ os
  owners_are base os ps are = each_owner ps ∙ (ap (map (λ (k : Known T E). k.owner)) are ∙ fresh_owner E base os)

-- what holds of each element holds of those before the last, and of the last
pub all_popped : {P : Type 0} (F : P → Type 0) (qs ps : List P) (p : P) → ps ≡ qs ++ p ∷ [] → All F ps → All F qs × F p
all_popped F qs ps p is all = let cut = subst (λ l. All F l) is all in (all_before F qs p cut, all_middle F qs p [] (subst (λ l. All F l) (sym (append-nil (qs ++ p ∷ []))) cut))
