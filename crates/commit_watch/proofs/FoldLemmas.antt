-- The steps of a fold over an object's versions.
use Rattle.commit_watch.proofs.Names.{◌≡◌, ℕ, zero, suc, ◌+◌, ◌<◌, ◌≤◌, slice_index_or, arith, Bool, true, false, List, [], ◌∷◌, filter, drop, length, refl, sym, ◌∙◌, ap, Option, Some, None, if◌then◌else◌, Result, Ok, Err, ObjectId, Version, Moved, WatchFault, total_of, and_then, moved_to, moved_over}
use Rattle.commit_watch.specs.declared.faults.WatchFault.TheVariants as fault

module _ {T : Type 0} (first : T) (next : T → Version → Option T) (o : ObjectId) (p : Version → Bool) where
  filter-first : (rest vs : List Version) (v : Version) (b : Bool) → rest ≡ v ∷ vs → p v ≡ b → filter p rest ≡ (if b then v ∷ filter p vs else filter p vs)
  filter-first rest vs v b is e = ap (filter p) is ∙ ap (λ t. if t then v ∷ filter p vs else filter p vs) e

  over-first : (w : Option (Moved T)) (v : Version) (vs : List Version) (t : Option T) → t ≡ next (total_of first w) v → moved_over first next o w (v ∷ vs) ≡ and_then (moved_to first next o v t) (λ u. moved_over first next o u vs)
  unfolding moved_over
  over-first w v vs t is = ap (λ z. and_then (moved_to first next o v z) (λ u. moved_over first next o u vs)) (sym is)

  -- a version that isn't folded
  pub passed : (w : Option (Moved T)) (rest vs : List Version) (v : Version) (r : Result (Option (Moved T)) WatchFault) → rest ≡ v ∷ vs → p v ≡ false →
      moved_over first next o w (filter p rest) ≡ r → moved_over first next o w (filter p vs) ≡ r
  passed w rest vs v r is e h = sym (ap (moved_over first next o w) (filter-first rest vs v false is e)) ∙ h

  -- one that is
  pub taken : (w : Option (Moved T)) (rest vs : List Version) (v : Version) (t : T) (r : Result (Option (Moved T)) WatchFault) → rest ≡ v ∷ vs → p v ≡ true → Some t ≡ next (total_of first w) v →
      moved_over first next o w (filter p rest) ≡ r → moved_over first next o (Some (record { object = o; cursor = v.start; total = t })) (filter p vs) ≡ r
  taken w rest vs v t r is e n h = sym (ap (moved_over first next o w) (filter-first rest vs v true is e) ∙ over-first w v (filter p vs) (Some t) n) ∙ h

  -- and one at which there is no total
  pub stuck : (w : Option (Moved T)) (rest vs : List Version) (v : Version) (r : Result (Option (Moved T)) WatchFault) → rest ≡ v ∷ vs → p v ≡ true → None ≡ next (total_of first w) v →
      moved_over first next o w (filter p rest) ≡ r → r ≡ Err (fault.Overflow o v.start)
  stuck w rest vs v r is e n h = sym h ∙ ap (moved_over first next o w) (filter-first rest vs v true is e) ∙ over-first w v (filter p vs) None n

  -- none is left
  pub over-none : (w : Option (Moved T)) (rest : List Version) (r : Result (Option (Moved T)) WatchFault) → rest ≡ [] → moved_over first next o w (filter p rest) ≡ r → r ≡ Ok w
  unfolding moved_over
  over-none w rest r is h = sym h ∙ ap (λ vs. moved_over first next o w (filter p vs)) is

-- ---- lists by place

pub drop-item : (vs : List Version) (i j : ℕ) (d : Version) → j ≡ i + 1 → i < length vs → drop i vs ≡ slice_index_or vs i d ∷ drop j vs
drop-item [] i j d e l = absurd (omega arith)
drop-item (v ∷ vs) zero zero d e l = absurd (omega arith)
drop-item (v ∷ vs) zero (suc zero) d e l = refl
drop-item (v ∷ vs) zero (suc (suc j)) d e l = absurd (omega arith)
drop-item (v ∷ vs) (suc i) zero d e l = absurd (omega arith)
drop-item (v ∷ vs) (suc i) (suc j) d e l = drop-item vs i j d (omega arith) (omega arith)

pub drop-end : (vs : List Version) (i : ℕ) → length vs ≤ i → drop i vs ≡ []
drop-end [] zero l = refl
drop-end [] (suc i) l = refl
drop-end (v ∷ vs) zero l = absurd (omega arith)
drop-end (v ∷ vs) (suc i) l = drop-end vs i (omega arith)

pub drop-at : (vs : List Version) (i : ℕ) (v : Version) → i < length vs → v ≡ slice_index_or vs i v → drop i vs ≡ v ∷ drop (i + 1) vs
drop-at vs i v l is = drop-item vs i (i + 1) v refl l ∙ ap (λ z. z ∷ drop (i + 1) vs) (sym is)
