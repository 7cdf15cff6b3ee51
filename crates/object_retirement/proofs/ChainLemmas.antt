-- What a reader was answered once is what it sees over all versions that ever were.
use Rattle.object_retirement.proofs.Names.{◌≡◌, ◌≢◌, ℕ, ◌≤◌, nat_lt, Bool, true, false, List, [], ◌∷◌, ◌++◌, refl, sym, ◌∙◌, ap, subst, Option, Some, None, ◌⊎◌, inl, inr, arith, true≢false, StampParts, TimeParts, Has, lt, lt-trans, lt-total, lt-steps, lt-asymmetric, between, ObjectId, Value, Mark, Put, Seen, settle_of, scan, newest, floor_of, read_to, Starts, Distinct, Fits, IsOnFloor, Firm, views, value_of, Viewed, retired, MayRetire, Same, Gone, GivenUp, Grows, Follows_on, Chain, SomeOf, WasViewed, AllOf, Ends, Passes, AtMost, not-false, put-says, scan-passes, viewed-kept, top-all, Standing, standing, stands-has, distinct-kept, settled-kept, ends-floor}
use Rattle.std.proofs.lemmas.Bool.Decides.{nat_tests}
use Rattle.object_retirement.proofs.RetiredLemmas.{starts-has, same-found, settle-kept, floor-kept, sub-kept, distinct-retired, viewed-retired, same-values}
use Rattle.object_retirement.proofs.OlderLemmas.{put-of, given-up-fits, given-up-again, floor-stays, Follows, older-view}

-- ---- growth

distinct-grown : (m fresh : List Mark) → Grows m fresh → Distinct m → Distinct (fresh ++ m)
distinct-grown m [] g d = d
distinct-grown m (f ∷ fresh) g d = distinct-kept (fresh ++ m) f g.1 (distinct-grown m fresh g.0 d)

settled-grown : (m fresh : List Mark) (s : StampParts) (c : Bool) → settle_of m s ≡ Some c → settle_of (fresh ++ m) s ≡ Some c
settled-grown m [] s c h = h
settled-grown m (f ∷ fresh) s c h = settled-kept (fresh ++ m) f s c (settled-grown m fresh s c h)

floor-grown : (m fresh : List Mark) → Grows m fresh → floor_of (fresh ++ m) ≡ floor_of m
floor-grown m [] g = refl
floor-grown m (f ∷ fresh) g = floor-stays (fresh ++ m) f g.1 ∙ floor-grown m fresh g.0

viewed-grown : (m fresh : List Mark) (o : ObjectId) (t : TimeParts) (v : Value) → Grows m fresh → Viewed m o t v → Viewed (fresh ++ m) o t v
viewed-grown m [] o t v g w = w
viewed-grown m (f ∷ fresh) o t v g w = viewed-kept (fresh ++ m) f o t v g.1 (viewed-grown m fresh o t v g.0 w)

given-grown : (m fresh old : List Mark) → Grows m fresh → GivenUp m old → GivenUp (fresh ++ m) old
given-grown m [] old g h = h
given-grown m (f ∷ fresh) old g h = given-up-fits (fresh ++ m) old f g.1 (given-grown m fresh old g.0 h)

-- what is put isn't below the floor
pub put-on-floor : (m : List Mark) (o : ObjectId) (x : TimeParts) (v : Value) → Fits m (Put o x v) → (e : TimeParts) → floor_of m ≡ Some e → lt x e ≡ false
put-on-floor m o x v fits e is = subst (λ f. Ends f x) is (ends-floor (floor_of m) (read_to m o (newest m o)) x (put-says m o x v fits.1).1)

new-on-floor : (m fresh : List Mark) (o : ObjectId) (x : TimeParts) (v : Value) → Grows m fresh → Has (Put o x v) (fresh ++ m) → (e : TimeParts) → floor_of m ≡ Some e → Has (Put o x v) m ⊎ (lt x e ≡ false)
new-on-floor m [] o x v g j e is = inl j
new-on-floor m (f ∷ fresh) o x v g (inl h) e is = inr (put-on-floor (fresh ++ m) o x v (subst (Fits (fresh ++ m)) h g.1) e (floor-grown m fresh g.0 ∙ is))
new-on-floor m (f ∷ fresh) o x v g (inr j) e is = new-on-floor m fresh o x v g.0 j e is

-- ---- along a chain

append-none : (m : List Mark) → m ++ [] ≡ m
append-none [] = refl
append-none (f ∷ m) = ap (λ l. f ∷ l) (append-none m)

base-distinct : (old m : List Mark) (n : Follows_on old m) → Distinct old → Distinct n.base
base-distinct old m n d = elim n.came [ inl e ↦ subst Distinct (sym e) d | inr r ↦ subst Distinct (sym r.3) (distinct-retired old r.0 old d) ]

pub chain-distinct : (olds : List (List Mark)) (m : List Mark) → Chain olds m → Distinct m
chain-distinct [] m g = subst Distinct (append-none m) (distinct-grown [] m g tt)
chain-distinct (old ∷ olds) m (c, n) = subst Distinct (sym n.is) (distinct-grown n.base n.fresh n.grew (base-distinct old m n (chain-distinct olds old c)))

abbrev pub Every_old : (List Mark → Type 0) → List (List Mark) → Type 0
Every_old P [] = Unit {0}
Every_old P (m ∷ more) = P m × Every_old P more

every-old-map : (P Q : List Mark → Type 0) (ms : List (List Mark)) → ((m : List Mark) → P m → Q m) → Every_old P ms → Every_old Q ms
every-old-map P Q [] f h = tt
every-old-map P Q (m ∷ ms) f h = (f m h.0, every-old-map P Q ms f h.1)

on-given : (old m l : List Mark) (n : Follows_on old m) → Distinct old → GivenUp old l → GivenUp m l
on-given old m l n d g = subst (λ z. GivenUp z l) (sym n.is) (given-grown n.base n.fresh l n.grew (elim n.came [
  | inl e ↦ subst (λ z. GivenUp z l) (sym e) g
  | inr r ↦ subst (λ z. GivenUp z l) (sym r.3) (given-up-again old l r.0 r.2 d g)
]))

self-given : (m : List Mark) → GivenUp m m
self-given m o x v j = inl j

-- each version of an older history stands here or was given up
pub chain-given : (olds : List (List Mark)) (m : List Mark) → Chain olds m → Every_old (GivenUp m) olds
chain-given [] m g = tt
chain-given (old ∷ olds) m (c, n) =
    let d : Distinct old = chain-distinct olds old c in
    (on-given old m old n d (self-given old), every-old-map (GivenUp old) (GivenUp m) olds (λ l g. on-given old m l n d g) (chain-given olds old c))

-- ---- floors

floor-empty : (m : List Mark) → Grows [] m → (e : TimeParts) → floor_of m ≡ Some e → ⊥
unfolding floor_of
floor-empty m g e is = let none : floor_of m ≡ None = ap floor_of (sym (append-none m)) ∙ floor-grown [] m g in let p : None ≡ Some e = sym none ∙ is in absurd (cc p)

floor-base : (old m : List Mark) (n : Follows_on old m) → floor_of m ≡ floor_of n.base
floor-base old m n = ap floor_of n.is ∙ floor-grown n.base n.fresh n.grew

-- a floor is a mark, whose step is 1
pub chain-floor : (olds : List (List Mark)) (m : List Mark) → Chain olds m → (e : TimeParts) → floor_of m ≡ Some e → e.step ≡ 1
chain-floor [] m g e is = absurd (floor-empty m g e is)
chain-floor (old ∷ olds) m (c, n) e is = elim n.came [
  | inl b ↦ chain-floor olds old c e (ap floor_of (sym b) ∙ sym (floor-base old m n) ∙ is)
  | inr r ↦
      let p : Some r.0 ≡ Some e = sym (floor-kept old r.0 old) ∙ ap floor_of (sym r.3) ∙ sym (floor-base old m n) ∙ is in
      let q : r.0 ≡ e = cc p in
      subst (λ (z : TimeParts). z.step ≡ 1) q r.1
]

on-settled : (old m : List Mark) (n : Follows_on old m) (s : StampParts) (c : Bool) → settle_of old s ≡ Some c → settle_of m s ≡ Some c
on-settled old m n s c h =
    subst (λ z. settle_of z s ≡ Some c) (sym n.is) (settled-grown n.base n.fresh s c (elim n.came [
      | inl e ↦ subst (λ z. settle_of z s ≡ Some c) (sym e) h
      | inr r ↦ subst (λ z. settle_of z s ≡ Some c) (sym r.3) (settle-kept old r.0 old s ∙ h)
    ]))

-- ---- where a reader stays

abbrev time_of : StampParts → ℕ → TimeParts
time_of s n = record { stamp = s; step = n }

same-step : (x at : TimeParts) → at.stamp ≡ x.stamp → at.step ≡ 1 → 1 ≤ x.step → lt x at ≡ true → ⊥
same-step x at same one low h =
    let e : at ≡ time_of x.stamp 1 = ap (λ s. time_of s at.step) same ∙ ap (λ n. time_of x.stamp n) one in
    let k : nat_lt x.step 1 ≡ true = sym (lt-steps x.stamp x.step 1) ∙ ap (λ z. lt x z) (sym e) ∙ h in
    grind (arith, nat_tests)

-- all pseudotimes of a stamp lie on one side of a mark
pub one-side : (x at t : TimeParts) → at.step ≡ 1 → 1 ≤ x.step → lt x at ≡ true → lt t at ≡ false → x.stamp ≢ t.stamp
one-side x at t one low below above same = go (lt at t) refl
  where
    go : (b : Bool) → lt at t ≡ b → ⊥
    go true h = same-step x at (between x at t same (lt-asymmetric x at below) h) one low below
    go false h = same-step x at (ap (λ (z : TimeParts). z.stamp) (lt-total at t h above) ∙ sym same) one low below

starts-from : (P : TimeParts → Type 0) (o : ObjectId) (m : List Mark) → ((x : TimeParts) (w : Value) → Has (Put o x w) m → P x) → Starts P o m
starts-from P o [] h = tt
starts-from P o (Put a x v ∷ m) h = (λ e. h x v (inl (ap (λ z. Put z x v) e)), starts-from P o m (λ y w j. h y w (inr j)))
starts-from P o (_ ∷ m) h = starts-from P o m (λ y w j. h y w (inr j))

not-below : (x e t : TimeParts) → lt t e ≡ true → lt x e ≡ false → lt x t ≡ false
not-below x e t l h = not-false (lt x t) (λ k. true≢false (sym (lt-trans x t e k l) ∙ h))

pub some-given : (m : List Mark) (o : ObjectId) (x : TimeParts) (w : Value) (ls : List (List Mark)) → Every_old (GivenUp m) ls → SomeOf (λ l. Has (Put o x w) l) ls → Has (Put o x w) m ⊎ Gone m o x
some-given m o x w [] all j = absurd j
some-given m o x w (l ∷ ls) all (inl j) = all.0 o x w j
some-given m o x w (l ∷ ls) all (inr j) = some-given m o x w ls all.1 j

module _ (o : ObjectId) (t : TimeParts) (v : Value) where
  Stood : TimeParts → Value → List (List Mark) → Type 0
  Stood x w ls = SomeOf (λ l. Has (Put o x w) l) ls

  -- what came since isn't below the reader
  came-old : (old m : List Mark) (n : Follows_on old m) (e : TimeParts) → floor_of m ≡ Some e → lt t e ≡ true → (x : TimeParts) (w : Value) → Has (Put o x w) m → Has (Put o x w) old ⊎ (lt x t ≡ false)
  came-old old m n e is low x w j = elim (new-on-floor n.base n.fresh o x w n.grew (subst (Has (Put o x w)) n.is j) e (sym (floor-base old m n) ∙ is)) [
    | inr h ↦ inr (not-below x e t low h)
    | inl h ↦ inl (elim n.came [ inl b ↦ subst (Has (Put o x w)) b h | inr r ↦ sub-kept old r.0 old o x w (subst (Has (Put o x w)) r.3 h) ])
  ]

  -- it was viewed there, and what came later isn't below it
  pub record Frozen (olds : List (List Mark)) (m : List Mark) : Type 0 where
    pub there : List Mark
    pub viewed : Viewed there o t v
    pub on_floor : IsOnFloor there t
    pub steps : (e : TimeParts) → floor_of there ≡ Some e → e.step ≡ 1
    pub below : (x : TimeParts) (w : Value) → SomeOf (λ l. Has (Put o x w) l) (m ∷ olds) → (Has (Put o x w) there ⊎ Gone there o x) ⊎ (lt x t ≡ false)
    pub sub : (x : TimeParts) (w : Value) → Has (Put o x w) there → SomeOf (λ l. Has (Put o x w) l) (m ∷ olds)
    pub settles : (s : StampParts) (c : Bool) → settle_of there s ≡ Some c → settle_of m s ≡ Some c
    pub floor : (e : TimeParts) × (floor_of m ≡ Some e) × (lt t e ≡ true)

  abbrev pub Stays : List (List Mark) → List Mark → Type 0
  Stays olds m = (IsOnFloor m t × Viewed m o t v) ⊎ Frozen olds m

  frozen-on : (olds : List (List Mark)) (old m : List Mark) (n : Follows_on old m) → Frozen olds old → (e : TimeParts) → floor_of m ≡ Some e → lt t e ≡ true → Frozen (old ∷ olds) m
  frozen-on olds old m n f e is low = record {
    there = f.there;
    viewed = f.viewed;
    on_floor = f.on_floor;
    steps = f.steps;
    below = λ x w j. later x w j;
    sub = λ x w j. inr (f.sub x w j);
    settles = λ s c h. on-settled old m n s c (f.settles s c h);
    floor = (e, is, low);
  }
    where
      later : (x : TimeParts) (w : Value) → SomeOf (λ l. Has (Put o x w) l) (m ∷ (old ∷ olds)) → (Has (Put o x w) f.there ⊎ Gone f.there o x) ⊎ (lt x t ≡ false)
      later x w (inr j) = f.below x w j
      later x w (inl j) = elim (came-old old m n e is low x w j) [ inl h ↦ f.below x w (inl h) | inr h ↦ inr h ]

  frozen-now : (olds : List (List Mark)) (old m : List Mark) (n : Follows_on old m) → Chain olds old → IsOnFloor old t → Viewed old o t v → (e : TimeParts) → floor_of m ≡ Some e → lt t e ≡ true → Frozen (old ∷ olds) m
  frozen-now olds old m n c on w e is low = record {
    there = old;
    viewed = w;
    on_floor = on;
    steps = chain-floor olds old c;
    below = λ x z j. later x z j;
    sub = λ x z j. inr (inl j);
    settles = on-settled old m n;
    floor = (e, is, low);
  }
    where
      later : (x : TimeParts) (z : Value) → SomeOf (λ l. Has (Put o x z) l) (m ∷ (old ∷ olds)) → (Has (Put o x z) old ⊎ Gone old o x) ⊎ (lt x t ≡ false)
      later x z (inr (inl j)) = inl (inl j)
      later x z (inr (inr j)) = inl (some-given old o x z olds (chain-given olds old c) j)
      later x z (inl j) = elim (came-old old m n e is low x z j) [ inl h ↦ inl (inl h) | inr h ↦ inr h ]

  on : (old m : List Mark) (n : Follows_on old m) → ((e : TimeParts) → floor_of n.base ≡ Some e → lt t e ≡ false) → Viewed n.base o t v → IsOnFloor m t × Viewed m o t v
  on old m n f w = (λ e is. f e (sym (floor-base old m n) ∙ is), subst (λ z. Viewed z o t v) (sym n.is) (viewed-grown n.base n.fresh o t v n.grew w))

  up : (olds : List (List Mark)) (old m : List Mark) → Chain olds old → (n : Follows_on old m) → ((x : TimeParts) (w : Value) → Has (Put o x w) old → 1 ≤ x.step) → Stays olds old → Stays (old ∷ olds) m
  up olds old m c n steps (inr f) = elim n.came [
    | inl b ↦ inr (frozen-on olds old m n f f.floor.0 (floor-base old m n ∙ ap floor_of b ∙ f.floor.1) f.floor.2)
    | inr r ↦ inr (frozen-on olds old m n f r.0 (floor-base old m n ∙ ap floor_of r.3 ∙ floor-kept old r.0 old) (lt-trans t f.floor.0 r.0 f.floor.2 (r.2.floor f.floor.0 f.floor.1)))
  ]
  up olds old m c n steps (inl s) = elim n.came [
    | inl b ↦ inl (on old m n (λ e is. s.0 e (ap floor_of (sym b) ∙ is)) (subst (λ z. Viewed z o t v) (sym b) s.1))
    | inr r ↦ choice r.0 r.1 r.2 r.3 (lt t r.0) refl
  ]
    where
      choice : (at : TimeParts) → at.step ≡ 1 → MayRetire old at → n.base ≡ retired old at → (b : Bool) → lt t at ≡ b → Stays (old ∷ olds) m
      choice at one may is true low = inr (frozen-now olds old m n c s.0 s.1 at (floor-base old m n ∙ ap floor_of is ∙ floor-kept old at old) low)
      choice at one may is false above =
          inl (on old m n (λ e f. high e (sym (floor-kept old at old) ∙ ap floor_of (sym is) ∙ f))
          (subst (λ z. Viewed z o t v) (sym is)
          (viewed-retired old at may (chain-distinct olds old c) o t v above
          (starts-from (λ x. lt x at ≡ true → x.stamp ≢ t.stamp) o old (λ x w j below. one-side x at t one (steps x w j) below above)) s.1)))
        where
          high : (e : TimeParts) → Some at ≡ Some e → lt t e ≡ false
          high e p = let q : at ≡ e = cc p in subst (λ z. lt t z ≡ false) q above

  pub stays : (olds : List (List Mark)) (m : List Mark) → Chain olds m → ((x : TimeParts) (w : Value) → SomeOf (λ l. Has (Put o x w) l) (m ∷ olds) → 1 ≤ x.step) → WasViewed (m ∷ olds) o t v → Stays olds m
  stays [] m c steps (inl h) = inl h
  stays [] m c steps (inr h) = absurd h
  stays (old ∷ olds) m c steps (inl h) = inl h
  stays (old ∷ olds) m c steps (inr h) = up olds old m c.0 c.1 (λ x w j. steps x w (inr (inl j))) (stays olds old c.0 (λ x w j. steps x w (inr j)) h)

later-firm : (m k : List Mark) (t : TimeParts) → ((s : StampParts) (c : Bool) → settle_of m s ≡ Some c → settle_of k s ≡ Some c) → (r r2 : Option Seen) → Same r r2 → Firm m t r → Firm k t r2
later-firm m k t h None None s f = tt
later-firm m k t h None (Some z) s f = absurd s
later-firm m k t h (Some r) None s f = absurd s
later-firm m k t h (Some r) (Some z) s (inl own) = inl (ap (λ (x : TimeParts). x.stamp) (sym s.0) ∙ own)
later-firm m k t h (Some r) (Some z) s (inr set) = inr (ap (λ (x : TimeParts). settle_of k x.stamp) (sym s.0) ∙ h r.start.stamp true set)

-- what a reader was answered once is what it views over all versions that ever stood
pub chain-view : (olds : List (List Mark)) (m all : List Mark) (o : ObjectId) (t : TimeParts) (v : Value) → Chain olds m → AllOf olds m all o → WasViewed (m ∷ olds) o t v → (value_of (views all o t) ≡ v) × Firm all t (views all o t)
chain-view olds m all o t v c a w = go (stays o t v olds m c (λ x z j. a.steps x z (a.each x z j)) w)
  where
    done : (l : List Mark) → Follows l all o t → Viewed l o t v → (value_of (views all o t) ≡ v) × Firm all t (views all o t)
    done l f h =
        let same : Same (views l o t) (views all o t) = older-view l all o t f h.1 in
        (sym (same-values (views all o t) (views l o t) same) ∙ h.0, later-firm l all t f.settles (views l o t) (views all o t) same h.1)

    here : (x : TimeParts) (z : Value) → SomeOf (λ l. Has (Put o x z) l) (m ∷ olds) → Has (Put o x z) m ⊎ Gone m o x
    here x z (inl j) = inl j
    here x z (inr j) = some-given m o x z olds (chain-given olds m c) j

    go : Stays o t v olds m → (value_of (views all o t) ≡ v) × Firm all t (views all o t)
    go (inl s) =
        done m (record {
          distinct = a.distinct;
          sub = λ x z j. a.each x z (inl j);
          settles = a.settles;
          given = λ x z j. inl (here x z (a.none x z j));
          floor = s.0;
          own = λ x z e j is below. one-side x e t (chain-floor olds m c e is) (a.steps x z j) below (s.0 e is);
        }) s.1
    go (inr f) =
        done f.there (record {
          distinct = a.distinct;
          sub = λ x z j. a.each x z (f.sub x z j);
          settles = λ s k h. a.settles s k (f.settles s k h);
          given = λ x z j. f.below x z (a.none x z j);
          floor = f.on_floor;
          own = λ x z e j is below. one-side x e t (f.steps e is) (a.steps x z j) below (f.on_floor e is);
        }) f.viewed

-- ---- the last committed version stands

module _ (olds : List (List Mark)) (m all : List Mark) (o : ObjectId) (c : Chain olds m) (a : AllOf olds m all o) (sure : StampParts → Bool)
    (no : (s : StampParts) → settle_of m s ≡ Some false → sure s ≡ false) (yes : (s : StampParts) → settle_of m s ≡ Some true → sure s ≡ true) where
  stands-last : (r : Option Seen) → Standing o all r → Passes (λ x. sure x.stamp) r → Starts (λ y. sure y.stamp ≡ true → AtMost r y) o all → (q : Seen) → r ≡ Some q → Has (Put o q.start q.value) m
  stands-last None s p most q e = absurd (cc e)
  stands-last (Some r) s p most q e =
      let is : r ≡ q = cc e in
      subst (λ (z : Seen). Has (Put o z.start z.value) m) is (go (a.none r.start r.value (stands-has o all r s)))
    where
      known : Has (Put o r.start r.value) m ⊎ Gone m o r.start → Has (Put o r.start r.value) m
      known (inl h) = h
      known (inr (e, f, l, inl dead)) = absurd (true≢false (sym p ∙ no r.start.stamp dead))
      known (inr (e, f, l, inr j)) =
          let h = put-of (λ y. (settle_of m y.stamp ≡ Some true) × (lt r.start y ≡ true) × (lt y e ≡ true)) o m j in
          absurd (true≢false (sym h.2.1 ∙ starts-has (λ y. sure y.stamp ≡ true → lt r.start y ≡ false) o all h.0 h.1 most (a.each h.0 h.1 (inl h.3)) (yes h.0.stamp h.2.0)))

      go : SomeOf (λ l. Has (Put o r.start r.value) l) (m ∷ olds) → Has (Put o r.start r.value) m
      go (inl j) = j
      go (inr j) = known (some-given m o r.start r.value olds (chain-given olds m c) j)

  -- of the versions here and of all that ever stood, the last committed one is the same
  pub last-stays : Same (scan (λ x. sure x.stamp) o m) (scan (λ x. sure x.stamp) o all)
  last-stays =
      same-found (λ x. sure x.stamp) o all m a.distinct (λ x w j. a.each x w (inl j))
      (stands-last (scan (λ x. sure x.stamp) o all) (standing (λ x. sure x.stamp) o all) (scan-passes (λ x. sure x.stamp) o all) (top-all (λ x. sure x.stamp) o all))
