-- How a node's volumes stand, and what is left of those that aren't written to.
use Rattle.run_volumes.proofs.Names.{◌≡◌, ◌<◌, ℕ, zero, suc, List, [], ◌∷◌, ◌++◌, length, map, take, drop, slice_index_or, refl, ap, sym, subst, arith, Option, Some, None, AllZip, Every, Opening, Open, Shut, Wanting, AreBack, IsBack, Media, HasOpened, log_in, medium_in, current, log_at, node_log, logs_of}
use Rattle.pseudo_time.specs.declared.down_causes.DownCause.{DownCause}
use Rattle.effect_form.specs.Effects.{AreEffects}
use Rattle.run_volumes.specs.Standings.{HasShut, KeepsIts, Stands, WritesNothing}

module _ {M : Type 0} (w : Media M) {g : _} where
  -- each volume that was opened holds its log
  stands-one : (m : Option M) (o : Opening M g) → HasOpened w m o → Stands w o
  stands-one None (Open store effects) h = absurd h
  stands-one (Some old) (Open store effects) h = (h.sound, h.in_range, h.has, h.left)
  stands-one m (Shut medium cause) h = tt
  stands-one m (Wanting medium) h = tt

  pub stand-all : (media : List (Option M)) (openings : List (Opening M g)) → AllZip (HasOpened w) media openings → Every (Stands w) openings
  stand-all [] [] h = tt
  stand-all [] (o ∷ os) h = absurd h
  stand-all (m ∷ ms) [] h = absurd h
  stand-all (m ∷ ms) (o ∷ os) h = (stands-one m o h.0, stand-all ms os h.1)

  range-one : (o : Opening M g) → Stands w o → AreEffects (log_in o)
  range-one (Open store effects) h = h.1
  range-one (Shut medium cause) h = tt
  range-one (Wanting medium) h = tt

  range-at : (os : List (Opening M g)) (v : ℕ) → Every (Stands w) os → AreEffects (log_at (logs_of os) v)
  range-at [] v h = tt
  range-at (o ∷ os) zero h = range-one o h.0
  range-at (o ∷ os) (suc v) h = range-at os v h.1

  pub in-range : (os : List (Opening M g)) → Every (Stands w) os → AreEffects (node_log (logs_of os))
  in-range os h = range-at os (current (logs_of os)) h

  keeps-one : (o : Opening M g) → Stands w o → KeepsIts w o (medium_in o)
  keeps-one (Open store effects) h = h.3
  keeps-one (Shut medium cause) h = refl
  keeps-one (Wanting medium) h = refl

  -- volumes that are given back as they are keep their logs
  keep-all : (os : List (Opening M g)) → Every (Stands w) os → WritesNothing w os (map medium_in os)
  keep-all [] h = tt
  keep-all (o ∷ os) h = (keeps-one o h.0, keep-all os h.1)

  -- ---- each volume that was taken is given back

  pub back-one : (m : Option M) (o : Opening M g) (l : Option M) → HasOpened w m o → KeepsIts w o l → IsBack m l
  back-one None (Open store effects) l h k = absurd h
  back-one None (Shut None cause) l h k = subst (IsBack None) (sym k) tt
  back-one None (Shut (Some x) cause) l h k = absurd h
  back-one None (Wanting x) l h k = absurd h
  back-one (Some old) (Open store effects) None h k = absurd k
  back-one (Some old) (Open store effects) (Some x) h k = tt
  back-one (Some old) (Shut None cause) l h k = absurd h
  back-one (Some old) (Shut (Some x) cause) l h k = subst (IsBack (Some old)) (sym k) tt
  back-one (Some old) (Wanting x) l h k = subst (IsBack (Some old)) (sym k) tt

  pub back-all : (media : List (Option M)) (os : List (Opening M g)) (left : List (Option M)) → AllZip (HasOpened w) media os → WritesNothing w os left → AreBack media left
  back-all [] [] [] h k = tt
  back-all [] [] (l ∷ ls) h k = absurd k
  back-all [] (o ∷ os) ls h k = absurd h
  back-all (m ∷ ms) [] ls h k = absurd h
  back-all (m ∷ ms) (o ∷ os) [] h k = absurd k
  back-all (m ∷ ms) (o ∷ os) (l ∷ ls) h k = (back-one m o l h.0 k.0, back-all ms os ls h.1 k.1)

  pub given-back : (os : List (Opening M g)) (left : List (Option M)) → Every (Stands w) os → left ≡ map medium_in os → WritesNothing w os left
  given-back os left h is = subst (WritesNothing w os) (sym is) (keep-all os h)

module _ {M : Type 0} {g : _} where
  -- the i-th volume is shut
  split-at : (os : List (Opening M g)) (i : ℕ) (o : Opening M g) → i < length os → o ≡ slice_index_or os i o → os ≡ take i os ++ o ∷ drop (suc i) os
  split-at [] i o low e = absurd (omega (arith, low))
  split-at (p ∷ os) zero o low e = ap (λ z. z ∷ os) (sym e)
  split-at (p ∷ os) (suc i) o low e = ap (λ l. p ∷ l) (split-at os i o (omega (arith, low)) e)

  pub shut-at : (os : List (Opening M g)) (i : ℕ) (o : Opening M g) (medium : Option M) (cause : DownCause) → i < length os → o ≡ slice_index_or os i o → o ≡ Shut medium cause → HasShut os cause
  shut-at os i o medium cause low e is = record { front = take i os; medium = medium; back = drop (suc i) os; is = subst (λ (z : Opening M g). os ≡ take i os ++ z ∷ drop (suc i) os) is (split-at os i o low e) }
