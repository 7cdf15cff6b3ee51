-- Giving out the owners one by one.
use Rattle.seat_lock.proofs.Names.{◌≡◌, ℕ, ◌<◌, List, [], ◌∷◌, ◌++◌, length, refl, arith, TableId, Part, View, Seat, first_part, other_parts, all_parts, newcomer, AreNew}

pub parts_cut : {E : Type 0} (ps : List (Part E)) → 0 < length ps → (p : Part E) × (first_part ps ≡ p ∷ []) × (ps ≡ p ∷ other_parts ps)
parts_cut [] h = absurd (omega arith)
parts_cut (p ∷ ps) h = (p, refl, refl)

pub length-all_parts : (E : Type 0) (os : List ℕ) → (let ps : List (Part E) = all_parts os in length ps ≡ length os)
length-all_parts E [] = refl
length-all_parts E (o ∷ os) = omega (arith, length-all_parts E os)

module _ {T E : Type 0} where
  pub are_new_snoc : (z : TableId) (v : View T E) (xs : List (Part E)) (ps : List (Seat T (View T E))) (x : Part E) (p : Seat T (View T E))
      → AreNew z v xs ps → p.table_id ≡ z → p.me ≡ (newcomer v x, []) → AreNew z v (xs ++ x ∷ []) (ps ++ p ∷ [])
  are_new_snoc z v [] [] x p all here is = (here, is, tt)
  are_new_snoc z v [] (q ∷ qs) x p all here is = absurd all
  are_new_snoc z v (y ∷ ys) [] x p all here is = absurd all
  are_new_snoc z v (y ∷ ys) (q ∷ qs) x p all here is = (all.0, all.1, are_new_snoc z v ys qs x p all.2 here is)
