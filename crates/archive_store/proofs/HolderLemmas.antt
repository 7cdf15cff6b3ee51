-- The last log that has a put, as the code looks for it from the end.
use Rattle.archive_store.proofs.Names.{◌≡◌, ℕ, zero, suc, ◌+◌, ◌<◌, ◌≤◌, arith, Bool, true, false, List, [], ◌∷◌, map, drop, length, slice_index_or, refl, sym, ◌∙◌, ap, Option, Some, None, ◌==◌, ◌&&◌, ◌||◌, if◌then◌else◌, true≢false, false≢true, TimeParts, same_time, ObjectId, Value, Mark, Put, Stretch, Settle, Floor, same_object, has_start, later, holder_of}
use Rattle.pseudo_time.proofs.EqualLemmas.{same_time-parts}
use Rattle.commit_watch.proofs.ListLemmas.{same-parts}
use Rattle.archive_store.proofs.JoinLemmas.{drop-item, drop-end}

or-none : (b : Bool) → b ≡ (b || false)
or-none true = refl
or-none false = refl

or-left : (b c : Bool) → (b || c) ≡ ((b || false) || c)
or-left true c = refl
or-left false c = refl

pub has-first : (o : ObjectId) (x : TimeParts) (f : Mark) (m : List Mark) → has_start o x (f ∷ m) ≡ (has_start o x (f ∷ []) || has_start o x m)
unfolding has_start
has-first o x (Put a y v) m = or-left _ (has_start o x m)
has-first o x (Stretch a y) m = refl
has-first o x (Settle s c) m = refl
has-first o x (Floor y) m = refl

pub has-here : (o : ObjectId) (x : TimeParts) (f : Mark) (m rest : List Mark) (b : Bool) → rest ≡ f ∷ m → b ≡ has_start o x (f ∷ []) → b ≡ true → has_start o x rest ≡ true
has-here o x f m rest b e is h = ap (has_start o x) e ∙ has-first o x f m ∙ ap (λ z. z || has_start o x m) (sym is ∙ h)

pub has-on : (o : ObjectId) (x : TimeParts) (f : Mark) (m rest : List Mark) (b : Bool) → rest ≡ f ∷ m → b ≡ has_start o x (f ∷ []) → b ≡ false → has_start o x rest ≡ has_start o x m
has-on o x f m rest b e is h = ap (has_start o x) e ∙ has-first o x f m ∙ ap (λ z. z || has_start o x m) (sym is ∙ h)

module _ {A : Type 0} (f : A → List Mark) (o : ObjectId) (x : TimeParts) where
  here-last : (b : Bool) (r : Option ℕ) → b ≡ true → r ≡ None → later b r ≡ Some 0
  here-last b r h e = ap (later b) e ∙ ap (λ z. if z then Some 0 else None) h

  pub holds-at : (ls : List A) (p : ℕ) (d : A) → p < length ls → holder_of o x (map f (drop (p + 1) ls)) ≡ None → has_start o x (f (slice_index_or ls p d)) ≡ true → holder_of o x (map f ls) ≡ Some p
  unfolding holder_of
  holds-at [] p d l n h = absurd (omega arith)
  holds-at (k ∷ ls) zero d l n h = here-last (has_start o x (f k)) (holder_of o x (map f ls)) h n
  holds-at (k ∷ ls) (suc p) d l n h = ap (later (has_start o x (f k))) (holds-at ls p d (omega arith) (sym (ap (λ i. holder_of o x (map f (drop i (k ∷ ls)))) (one-more p)) ∙ n) h) ∙ ap Some (plus-one p)
    where
      plus-one : (n : ℕ) → n + 1 ≡ suc n
      plus-one n = omega arith

      one-more : (n : ℕ) → suc n + 1 ≡ suc (n + 1)
      one-more n = omega arith

  pub holds-here : (ls : List A) (p : ℕ) (d : A) → p < length ls → d ≡ slice_index_or ls p d → holder_of o x (map f (drop (p + 1) ls)) ≡ None → has_start o x (f d) ≡ true → holder_of o x (map f ls) ≡ Some p
  holds-here ls p d l is n h = holds-at ls p d l n (ap (λ k. has_start o x (f k)) (sym is) ∙ h)

  none-here : (b : Bool) (r : Option ℕ) → b ≡ false → r ≡ None → later b r ≡ None
  none-here b r h e = ap (later b) e ∙ ap (λ z. if z then Some 0 else None) h

  pub holds-not : (ls : List A) (p : ℕ) (d : A) → p < length ls → d ≡ slice_index_or ls p d → holder_of o x (map f (drop (p + 1) ls)) ≡ None → has_start o x (f d) ≡ false → holder_of o x (map f (drop p ls)) ≡ None
  unfolding holder_of
  holds-not ls p d l is n h = ap (λ z. holder_of o x (map f z)) (drop-item ls p (p + 1) d refl l is) ∙ none-here (has_start o x (f d)) (holder_of o x (map f (drop (p + 1) ls))) h n

pub has-nowhere : (o : ObjectId) (x : TimeParts) (rest : List Mark) → rest ≡ [] → has_start o x rest ≡ false
unfolding has_start
has-nowhere o x rest e = ap (has_start o x) e

and-here : (b c d : Bool) → b ≡ true → c ≡ d → c ≡ ((b && d) || false)
and-here true c d h e = e ∙ or-none d
and-here false c d h e = absurd (false≢true h)

and-not : (b d : Bool) → b ≡ false → false ≡ ((b && d) || false)
and-not true d h = absurd (true≢false h)
and-not false d h = refl

-- the tests that are derived tell whether the put is of this object and start
pub is-put-there : (o a : ObjectId) (x y : TimeParts) (v : Value) (f : Mark) (b c : Bool) → f ≡ Put a y v → b ≡ (a.repository == o.repository && a.number == o.number) → b ≡ true →
    c ≡ ((y.stamp.clock == x.stamp.clock && (y.stamp.broker == x.stamp.broker && y.stamp.home == x.stamp.home)) && y.step == x.step) → c ≡ has_start o x (f ∷ [])
unfolding has_start
is-put-there o a x y v f b c is e h k =
    and-here (same_object a o) c (same_time y x) (sym (same-parts a o) ∙ sym e ∙ h) (k ∙ same_time-parts y x)
    ∙ sym (ap (λ (z : Mark). has_start o x (z ∷ [])) is)

pub is-put-other : (o a : ObjectId) (x y : TimeParts) (v : Value) (f : Mark) (b : Bool) → f ≡ Put a y v → b ≡ (a.repository == o.repository && a.number == o.number) → b ≡ false → b ≡ has_start o x (f ∷ [])
unfolding has_start
is-put-other o a x y v f b is e h =
    h ∙ and-not (same_object a o) (same_time y x) (sym (same-parts a o) ∙ sym e ∙ h) ∙ sym (ap (λ (z : Mark). has_start o x (z ∷ [])) is)

pub holds-none : {A : Type 0} (f : A → List Mark) (o : ObjectId) (x : TimeParts) (ls : List A) (p : ℕ) → length ls ≤ p → holder_of o x (map f (drop p ls)) ≡ None
unfolding holder_of
holds-none f o x ls p l = ap (λ z. holder_of o x (map f z)) (drop-end ls p l)
