-- What a seat that takes in others knows of the story.
use Rattle.seat_lock.proofs.Names.{ℕ, zero, suc, List, [], ◌∷◌, ◌++◌, get_or, refl, arith, All, All-append, Part, View, HasOwn, gathered, Knows, Covers}

module _ {E : Type 0} (owner : E → ℕ) where
  own_left : (ps qs : List (Part E)) (l : List E) → HasOwn owner (ps ++ qs) l → HasOwn owner ps l
  own_left [] qs l h = tt
  own_left (p ∷ ps) qs l h = (h.0, own_left ps qs l h.1)

  own_right : (ps qs : List (Part E)) (l : List E) → HasOwn owner (ps ++ qs) l → HasOwn owner qs l
  own_right [] qs l h = h
  own_right (p ∷ ps) qs l h = own_right ps qs l h.1

module _ {P : Type 0} (F : P → Type 0) where
  pub all_cons : (p : P) (ps : List P) → F p → All F ps → All F (p ∷ ps)
  all_cons p ps here all zero d lt = here
  all_cons p ps here all (suc k) d lt = all k d (omega arith)

  pub all_middle : (xs : List P) (y : P) (ys : List P) → All F ((xs ++ y ∷ []) ++ ys) → F y
  all_middle [] y ys all = all 0 y (omega arith)
  all_middle (x ∷ xs) y ys all = all_middle xs y ys (λ k d lt. all (suc k) d (omega arith))

  pub all_before : (xs : List P) (y : P) → All F (xs ++ y ∷ []) → All F xs
  all_before [] y all k d lt = absurd (omega arith)
  all_before (x ∷ xs) y all zero d lt = all 0 d (omega arith)
  all_before (x ∷ xs) y all (suc k) d lt = all_before xs y (λ i e l. all (suc i) e (omega arith)) k d (omega arith)

  pub all_after : (xs : List P) (y : P) → All F xs → F y → All F (xs ++ y ∷ [])
  all_after xs y all here = All-append F xs (y ∷ []) all (all_cons y [] here (λ k d lt. absurd (omega arith)))

module _ {T E : Type 0} (owner : E → ℕ) where
  pub covers_left : (v w : View T E) (l : List E) → Knows owner (gathered v w) l → Knows owner v l
  covers_left v w l k = (k.2 0 v.story refl, own_left owner v.parts w.parts l k.1, λ i h e. k.2 (suc (suc i)) h e)

  pub covers_right : (v w : View T E) → Covers owner (gathered v w) w
  covers_right v w l k = (k.2 1 w.story refl, own_right owner v.parts w.parts l k.1)

  pub covers_more : (v w u : View T E) → Covers owner v u → Covers owner (gathered v w) u
  covers_more v w u c l k = c l (covers_left v w l k)

  pub covers_self : (v : View T E) → Covers owner v v
  covers_self v l k = (k.0, k.1)

  pub all_more : {P : Type 0} (view : P → View T E) (v w : View T E) (ps : List P) → All (λ p. Covers owner v (view p)) ps → All (λ p. Covers owner (gathered v w) (view p)) ps
  all_more view v w ps all k d lt = covers_more v w (view (get_or ps k d)) (all k d lt)
