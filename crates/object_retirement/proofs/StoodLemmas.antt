-- The versions that ever stood are gathered, each object and start once.
use Rattle.object_retirement.proofs.Names.{◌≡◌, ◌≢◌, ◌≤◌, Bool, true, false, List, [], ◌∷◌, ◌&&◌, ◌||◌, refl, sym, ◌∙◌, ap, subst, if◌then◌else◌, ◌⊎◌, inl, inr, true≢false, StampParts, TimeParts, Has, same_time, same_time-is, same_time-of, ObjectId, Value, Mark, Put, Floor, same_object, settle_of, Starts, Distinct, and-both, and-left, and-right, same_object-is, same_object-of, AllOf, Chain, SomeOf}
use Rattle.object_retirement.specs.Stood.{all_stood, has_start, with_old}
use Rattle.object_retirement.proofs.ChainLemmas.{chain-distinct}

-- ---- one start

or-here : (a b : Bool) → (a || b) ≡ true → (a ≡ true) ⊎ (b ≡ true)
or-here true b e = inl refl
or-here false b e = inr e

or-none : (a b : Bool) → (a || b) ≡ false → (a ≡ false) × (b ≡ false)
or-none true b e = absurd (true≢false e)
or-none false b e = (refl, e)

start-has : (o : ObjectId) (x : TimeParts) (m : List Mark) → has_start o x m ≡ true → (v : Value) × Has (Put o x v) m
unfolding has_start
start-has o x [] e = absurd (cc e)
start-has o x (Put a y v ∷ m) e = go (or-here (same_object a o && same_time y x) (has_start o x m) e) (λ h. start-has o x m h)
  where
    go : ((same_object a o && same_time y x) ≡ true) ⊎ (has_start o x m ≡ true) → (has_start o x m ≡ true → (w : Value) × Has (Put o x w) m) → (w : Value) × Has (Put o x w) (Put a y v ∷ m)
    go (inl k) rest = (v, inl (ap (λ z. Put z y v) (same_object-is a o (and-left (same_object a o) (same_time y x) k)) ∙ ap (λ z. Put o z v) (same_time-is y x (and-right (same_object a o) (same_time y x) k))))
    go (inr k) rest = let r = rest k in (r.0, inr r.1)
start-has o x (_ ∷ m) e = let r = start-has o x m e in (r.0, inr r.1)

no-start : (o : ObjectId) (x : TimeParts) (m : List Mark) → has_start o x m ≡ false → Starts (λ y. y ≢ x) o m
unfolding has_start
no-start o x [] e = tt
no-start o x (Put a y v ∷ m) e =
    let k = or-none (same_object a o && same_time y x) (has_start o x m) e in
    ((λ p q. true≢false (sym (and-both (same_object a o) (same_time y x) (same_object-of a o p) (same_time-of y x q)) ∙ k.0)), no-start o x m k.1)
no-start o x (_ ∷ m) e = no-start o x m e

-- ---- one older history

distinct-with : (met m : List Mark) → Distinct met → Distinct (with_old met m)
unfolding with_old
distinct-with met [] d = d
distinct-with met (Put o x v ∷ m) d = go (has_start o x (with_old met m)) refl (distinct-with met m d)
  where
    go : (b : Bool) → has_start o x (with_old met m) ≡ b → Distinct (with_old met m) → Distinct (if b then with_old met m else Put o x v ∷ with_old met m)
    go true e k = k
    go false e k = (no-start o x (with_old met m) e, k)
distinct-with met (_ ∷ m) d = distinct-with met m d

settles-with : (met m : List Mark) (s : StampParts) → settle_of (with_old met m) s ≡ settle_of met s
unfolding with_old settle_of
settles-with met [] s = refl
settles-with met (Put o x v ∷ m) s = (elim (has_start o x (with_old met m)) as (λ b. settle_of (if b then with_old met m else Put o x v ∷ with_old met m) s ≡ settle_of (with_old met m) s) [ true ↦ refl | false ↦ refl ]) ∙ settles-with met m s
settles-with met (_ ∷ m) s = settles-with met m s

with-has : (met m : List Mark) (f : Mark) → Has f met → Has f (with_old met m)
unfolding with_old
with-has met [] f h = h
with-has met (Put o x v ∷ m) f h = (elim (has_start o x (with_old met m)) as (λ b. Has f (with_old met m) → Has f (if b then with_old met m else Put o x v ∷ with_old met m)) [ true ↦ λ k. k | false ↦ λ k. inr k ]) (with-has met m f h)
with-has met (_ ∷ m) f h = with-has met m f h

has-with : (met m : List Mark) (f : Mark) → Has f (with_old met m) → Has f met ⊎ Has f m
unfolding with_old
has-with met [] f h = inl h
has-with met (Put o x v ∷ m) f h = go (has_start o x (with_old met m)) h (λ k. has-with met m f k)
  where
    deeper : Has f met ⊎ Has f m → Has f met ⊎ Has f (Put o x v ∷ m)
    deeper (inl k) = inl k
    deeper (inr k) = inr (inr k)

    go : (b : Bool) → Has f (if b then with_old met m else Put o x v ∷ with_old met m) → (Has f (with_old met m) → Has f met ⊎ Has f m) → Has f met ⊎ Has f (Put o x v ∷ m)
    go true k rest = deeper (rest k)
    go false (inl e) rest = inr (inl e)
    go false (inr k) rest = deeper (rest k)
has-with met (_ ∷ m) f h = elim (has-with met m f h) [ inl k ↦ inl k | inr k ↦ inr (inr k) ]

module _ (o : ObjectId) (P : TimeParts → Value → Type 0) (one : (x : TimeParts) (v w : Value) → P x v → P x w → v ≡ w) where
  abbrev Are : List Mark → Type 0
  Are m = (x : TimeParts) (v : Value) → Has (Put o x v) m → P x v

  each-with : (met m : List Mark) → Are met → Are m → (x : TimeParts) (v : Value) → Has (Put o x v) m → Has (Put o x v) (with_old met m)
  unfolding with_old
  each-with met [] a c x v h = absurd h
  each-with met (Put u y w ∷ m) a c x v (inl e) =
      let p : u ≡ o = cc e in let q : y ≡ x = cc e in
      go (has_start u y (with_old met m)) refl p q
    where
      there : (z : Value) → Has (Put o x z) (with_old met m) → P x z
      there z h = elim (has-with met m (Put o x z) h) [ inl k ↦ a x z k | inr k ↦ c x z (inr k) ]

      go : (b : Bool) → has_start u y (with_old met m) ≡ b → u ≡ o → y ≡ x → Has (Put o x v) (if b then with_old met m else Put u y w ∷ with_old met m)
      go false s p q = inl e
      go true s p q =
          let k = start-has u y (with_old met m) s in
          let here : Has (Put o x k.0) (with_old met m) = subst (λ z. Has (Put z x k.0) (with_old met m)) p (subst (λ z. Has (Put u z k.0) (with_old met m)) q k.1) in
          subst (λ z. Has (Put o x z) (with_old met m)) (one x k.0 v (there k.0 here) (c x v (inl e))) here
  each-with met (Put u y w ∷ m) a c x v (inr h) = go (has_start u y (with_old met m)) (each-with met m a (λ z t k. c z t (inr k)) x v h)
    where
      go : (b : Bool) → Has (Put o x v) (with_old met m) → Has (Put o x v) (if b then with_old met m else Put u y w ∷ with_old met m)
      go true k = k
      go false k = inr k
  each-with met (_ ∷ m) a c x v (inl e) = absurd (cc e)
  each-with met (Floor z ∷ m) a c x v (inr h) = each-with met m a (λ z t k. c z t (inr k)) x v h
  each-with met (_ ∷ m) a c x v (inr h) = each-with met m a (λ z t k. c z t (inr k)) x v h

-- ---- all of them

over : (P : List Mark → Type 0) (m old : List Mark) (olds : List (List Mark)) → SomeOf P (m ∷ olds) → SomeOf P (m ∷ (old ∷ olds))
over P m old olds (inl k) = inl k
over P m old olds (inr k) = inr (inr k)

none-all : (o : ObjectId) (olds : List (List Mark)) (m : List Mark) (x : TimeParts) (v : Value) → Has (Put o x v) (all_stood olds m) → SomeOf (λ l. Has (Put o x v) l) (m ∷ olds)
none-all o [] m x v h = inl h
none-all o (old ∷ olds) m x v h = elim (has-with (all_stood olds m) old (Put o x v) h) [ inl k ↦ over (λ l. Has (Put o x v) l) m old olds (none-all o olds m x v k) | inr k ↦ inr (inl k) ]

each-all : (o : ObjectId) (P : TimeParts → Value → Type 0) → ((x : TimeParts) (v w : Value) → P x v → P x w → v ≡ w) → (olds : List (List Mark)) (m : List Mark) →
    ((x : TimeParts) (v : Value) → SomeOf (λ l. Has (Put o x v) l) (m ∷ olds) → P x v) → (x : TimeParts) (v : Value) → SomeOf (λ l. Has (Put o x v) l) (m ∷ olds) → Has (Put o x v) (all_stood olds m)
each-all o P one [] m a x v (inl h) = h
each-all o P one [] m a x v (inr h) = absurd h
each-all o P one (old ∷ olds) m a x v (inl h) = with-has (all_stood olds m) old (Put o x v) (each-all o P one olds m (λ z t k. a z t (over (λ l. Has (Put o z t) l) m old olds k)) x v (inl h))
each-all o P one (old ∷ olds) m a x v (inr (inl h)) = each-with o P one (all_stood olds m) old (λ z t k. a z t (over (λ l. Has (Put o z t) l) m old olds (none-all o olds m z t k))) (λ z t k. a z t (inr (inl k))) x v h
each-all o P one (old ∷ olds) m a x v (inr (inr h)) = with-has (all_stood olds m) old (Put o x v) (each-all o P one olds m (λ z t k. a z t (over (λ l. Has (Put o z t) l) m old olds k)) x v (inr h))

distinct-all : (olds : List (List Mark)) (m : List Mark) → Distinct m → Distinct (all_stood olds m)
distinct-all [] m d = d
distinct-all (old ∷ olds) m d = distinct-with (all_stood olds m) old (distinct-all olds m d)

settles-all : (olds : List (List Mark)) (m : List Mark) (s : StampParts) → settle_of (all_stood olds m) s ≡ settle_of m s
settles-all [] m s = refl
settles-all (old ∷ olds) m s = settles-with (all_stood olds m) old s ∙ settles-all olds m s

-- where one start of the object has one value, and each step is 1 or more, these are all versions that ever stood
pub all-stood : (olds : List (List Mark)) (m : List Mark) (o : ObjectId) → Chain olds m →
    ((x : TimeParts) (v w : Value) → SomeOf (λ l. Has (Put o x v) l) (m ∷ olds) → SomeOf (λ l. Has (Put o x w) l) (m ∷ olds) → v ≡ w) →
    ((x : TimeParts) (v : Value) → SomeOf (λ l. Has (Put o x v) l) (m ∷ olds) → 1 ≤ x.step) → AllOf olds m (all_stood olds m) o
all-stood olds m o c one low = record {
  distinct = distinct-all olds m (chain-distinct olds m c);
  each = each-all o (λ x v. SomeOf (λ l. Has (Put o x v) l) (m ∷ olds)) one olds m (λ x v k. k);
  none = none-all o olds m;
  settles = λ s k h. settles-all olds m s ∙ h;
  steps = λ x v h. low x v (none-all o olds m x v h);
}
