-- The undecided version that is reported: of the least object, and of its starts the least.
use Rattle.std.proofs.Common.{◌≡◌, ◌∙◌, ◌&&◌, ◌||◌, Bool, true, false, List, [], ◌∷◌, ap, inl, inr, refl, subst, sym}
use Rattle.std.proofs.lemmas.Bool.{false≢true, true≢false}
use Rattle.std.proofs.lemmas.Cmp.{on_total, then_total, tied_itself}
use Rattle.std.specs.Prelude.{Option, Some, None, not, if◌then◌else◌}
use Rattle.std.specs.Cmp.{IsTotalOrder}
use Rattle.std.specs.Ordering.{is_lt, ordering_reverse, ordering_then}
use Rattle.std.specs.declared.cmp.Ordering.{Ordering}
use Rattle.std.specs.declared.cmp.Ordering.TheVariants.{Less, Equal, Greater}
use Rattle.pseudo_time.specs.Lists.{Has}
use Rattle.pseudo_time.specs.Order.{lt}
use Rattle.pseudo_time.specs.StampParts.{StampParts}
use Rattle.pseudo_time.specs.TimeParts.{TimeParts, time_cmp}
use Rattle.pseudo_time.proofs.OrderLemmas.{is_less, lt-irreflexive, time_cmp-total}
use Rattle.value_form.specs.Objects.{object_cmp}
use Rattle.value_form.specs.declared.objects.ObjectId.{ObjectId}
use Rattle.value_form.specs.declared.values.Value.{Value}
use Rattle.value_form.proofs.ObjectLemmas.{object_cmp-total}
use Rattle.object_history.specs.Answers.{some_put}
use Rattle.object_history.specs.History.{settle_of}
use Rattle.object_history.specs.declared.marks.Mark.{Mark}
use Rattle.object_history.specs.declared.marks.Mark.TheVariants.{Put, Stretch, Settle, Floor}
use Rattle.object_history.proofs.BoolLemmas.{and-both}
use Rattle.archive_store.specs.Latest.{IsFirstOpen}
use Rattle.archive_store.specs.Met.{start_cmp}
use Rattle.archive_store.specs.Opens.{first_among, first_open, is_unsettled, lesser}
use Rattle.archive_store.specs.declared.starts.Start.{Start}
use Rattle.archive_law.proofs.ListedLemmas.{none-passes, passes-none}

-- ---- an order

module _ {K : Type 0} (R : K → K → Ordering) (total : IsTotalOrder R) where
  not-itself : (x : K) → is_lt (R x x) ≡ false
  not-itself x = ap is_lt (tied_itself total x)

  not-back : (p q : K) → is_lt (R q p) ≡ true → is_lt (R p q) ≡ false
  not-back p q h = ap is_lt (total.antisymm p q ∙ ap ordering_reverse (is_less (R q p) h))

  not-below : (y q p : K) → is_lt (R y q) ≡ false → is_lt (R q p) ≡ false → is_lt (R y p) ≡ false
  not-below y q p a b = by (R y p) refl (R q p) refl
    where
      by : (o : Ordering) → R y p ≡ o → (u : Ordering) → R q p ≡ u → is_lt (R y p) ≡ false
      by Equal e u k = ap is_lt e
      by Greater e u k = ap is_lt e
      by Less e Less k = absurd (true≢false (sym (ap is_lt k) ∙ b))
      by Less e Equal k =
          let l : R y q ≡ Less = total.antisymm y q ∙ (ap ordering_reverse (total.congr q p y k) ∙ (sym (total.antisymm y p) ∙ e)) in
          absurd (true≢false (sym (ap is_lt l) ∙ a))
      by Less e Greater k =
          let l : R y q ≡ Less = total.trans y p q e (total.antisymm p q ∙ ap ordering_reverse k) in
          absurd (true≢false (sym (ap is_lt l) ∙ a))

start-total : IsTotalOrder start_cmp
start-total = then_total (on_total (λ (s : Start). s.object) object_cmp-total) (on_total (λ (s : Start). s.start) time_cmp-total)

abbrev start-at : ObjectId → TimeParts → Start
start-at o x = record { object = o; start = x }

-- ---- the least among marks

some-one : {A : Type 0} (a b : A) → ◌≡◌ {A = Option A} (Some a) (Some b) → a ≡ b
some-one a b e = cc e

none-some : {A : Type 0} (a : A) → ◌≡◌ {A = Option A} (Some a) None → false ≡ true
none-some a e = cc e

module _ (settled : StampParts → Option Bool) (t : TimeParts) where
  abbrev AllSettled : List Mark → Type 0
  AllSettled m = (o : ObjectId) (x : TimeParts) (v : Value) → Has (Put o x v) m → is_unsettled settled t x ≡ false

  all-settled : (m : List Mark) → first_among settled t m ≡ None → AllSettled m
  unfolding first_among
  all-settled [] e o x v h = absurd h
  all-settled (Put a y w ∷ m) e o x v h = by (λ n j. all-settled m n o x v j) (is_unsettled settled t y) refl e h
    where
      by : (first_among settled t m ≡ None → Has (Put o x v) m → is_unsettled settled t x ≡ false) → (b : Bool) → is_unsettled settled t y ≡ b → (if b then Some (lesser (start-at a y) (first_among settled t m)) else first_among settled t m) ≡ None → Has (Put o x v) (Put a y w ∷ m) → is_unsettled settled t x ≡ false
      by later true k n j = absurd (false≢true (none-some (lesser (start-at a y) (first_among settled t m)) n))
      by later false k n (inl i) = let same : y ≡ x = cc i in ap (is_unsettled settled t) (sym same) ∙ k
      by later false k n (inr j) = later n j
  all-settled (Stretch a y ∷ m) e o x v (inl i) = absurd (cc i)
  all-settled (Stretch a y ∷ m) e o x v (inr h) = all-settled m e o x v h
  all-settled (Settle s c ∷ m) e o x v (inl i) = absurd (cc i)
  all-settled (Settle s c ∷ m) e o x v (inr h) = all-settled m e o x v h
  all-settled (Floor z ∷ m) e o x v (inl i) = absurd (cc i)
  all-settled (Floor z ∷ m) e o x v (inr h) = all-settled m e o x v h

  -- none of the unsettled ones comes before it
  abbrev NoneBefore : Start → List Mark → Type 0
  NoneBefore s m = (o : ObjectId) (x : TimeParts) (v : Value) → Has (Put o x v) m → is_unsettled settled t x ≡ true → is_lt (start_cmp (start-at o x) s) ≡ false

  record IsLeast (s : Start) (m : List Mark) : Type 0 where
    value : Value
    has : Has (Put s.object s.start value) m
    bad : is_unsettled settled t s.start ≡ true
    least : NoneBefore s m

  with-head : (a : ObjectId) (y : TimeParts) (w : Value) (s : Start) (m : List Mark) → is_lt (start_cmp (start-at a y) s) ≡ false → NoneBefore s m → NoneBefore s (Put a y w ∷ m)
  with-head a y w s m low rest o x v (inl i) u =
      let object : o ≡ a = cc i in
      let start : x ≡ y = cc i in
      ap (λ (q : Start). is_lt (start_cmp q s)) (λ j. start-at (object j) (start j)) ∙ low
  with-head a y w s m low rest o x v (inr h) u = rest o x v h u

  unmet : (a : ObjectId) (y : TimeParts) (w : Value) (s : Start) (m : List Mark) → is_unsettled settled t y ≡ false → NoneBefore s m → NoneBefore s (Put a y w ∷ m)
  unmet a y w s m k rest o x v (inl i) u = let same : y ≡ x = cc i in absurd (true≢false (sym u ∙ (ap (is_unsettled settled t) (sym same) ∙ k)))
  unmet a y w s m k rest o x v (inr h) u = rest o x v h u

  skip : (f : Mark) (s : Start) (m : List Mark) → ((o : ObjectId) (x : TimeParts) (v : Value) → f ≡ Put o x v → ⊥) → IsLeast s m → IsLeast s (f ∷ m)
  skip f s m other l = record { value = l.value; has = inr l.has; bad = l.bad; least = rest }
    where
      rest : NoneBefore s (f ∷ m)
      rest o x v (inl i) u = absurd (other o x v i)
      rest o x v (inr h) u = l.least o x v h u

  is-least : (m : List Mark) (s : Start) → first_among settled t m ≡ Some s → IsLeast s m
  unfolding first_among
  is-least [] s e = absurd (false≢true (none-some s (sym e)))
  is-least (Put a y w ∷ m) s e = by (λ z q. is-least m z q) (is_unsettled settled t y) refl e
    where
      pick : ((z : Start) → first_among settled t m ≡ Some z → IsLeast z m) → (z : Start) → first_among settled t m ≡ Some z → is_unsettled settled t y ≡ true → (c : Bool) → is_lt (start_cmp z (start-at a y)) ≡ c → Some (if c then z else start-at a y) ≡ Some s → IsLeast s (Put a y w ∷ m)
      pick rest z q k true c e =
          let l = rest z q in
          subst (λ (x : Start). IsLeast x (Put a y w ∷ m)) (some-one _ _ e)
          (record { value = l.value; has = inr l.has; bad = l.bad; least = with-head a y w z m (not-back start_cmp start-total (start-at a y) z c) l.least })
      pick rest z q k false c e =
          let l = rest z q in
          subst (λ (x : Start). IsLeast x (Put a y w ∷ m)) (some-one _ _ e)
          (record {
            value = w;
            has = inl refl;
            bad = k;
            least = with-head a y w (start-at a y) m (not-itself start_cmp start-total (start-at a y)) (λ o x v h u. not-below start_cmp start-total (start-at o x) z (start-at a y) (l.least o x v h u) c);
          })

      on : ((z : Start) → first_among settled t m ≡ Some z → IsLeast z m) → is_unsettled settled t y ≡ true → (f : Option Start) → first_among settled t m ≡ f → Some (lesser (start-at a y) f) ≡ Some s → IsLeast s (Put a y w ∷ m)
      on rest k None q e =
          subst (λ (x : Start). IsLeast x (Put a y w ∷ m)) (some-one _ _ e)
          (record {
            value = w;
            has = inl refl;
            bad = k;
            least = with-head a y w (start-at a y) m (not-itself start_cmp start-total (start-at a y)) (λ o x v h u. absurd (true≢false (sym u ∙ all-settled m q o x v h)));
          })
      on rest k (Some z) q e = pick rest z q k (is_lt (start_cmp z (start-at a y))) refl e

      by : ((z : Start) → first_among settled t m ≡ Some z → IsLeast z m) → (b : Bool) → is_unsettled settled t y ≡ b → (if b then Some (lesser (start-at a y) (first_among settled t m)) else first_among settled t m) ≡ Some s → IsLeast s (Put a y w ∷ m)
      by rest true k e = on rest k (first_among settled t m) refl e
      by rest false k e = let l = rest s e in record { value = l.value; has = inr l.has; bad = l.bad; least = unmet a y w s m k l.least }
  is-least (Stretch a y ∷ m) s e = skip (Stretch a y) s m (λ o x v i. absurd (cc i)) (is-least m s e)
  is-least (Settle q c ∷ m) s e = skip (Settle q c) s m (λ o x v i. absurd (cc i)) (is-least m s e)
  is-least (Floor z ∷ m) s e = skip (Floor z) s m (λ o x v i. absurd (cc i)) (is-least m s e)

-- ---- the first one

and-last : (a b : Bool) → (a ≡ true → b ≡ false) → (a && b) ≡ false
and-last true b h = h refl
and-last false b h = refl

-- what is found first is the least object with an undecided version below the mark, and the least start of one
pub first-is : (m : List Mark) (t : TimeParts) (s : Start) → first_open m t ≡ Some s → IsFirstOpen m t s.object s.start
unfolding lt
first-is m t s e = record { stands = stands (some_put here s.object m) refl; first = first; least = least }
  where
    l : IsLeast (settle_of m) t s m
    l = is-least (settle_of m) t m s e

    here : TimeParts → Bool
    here x = is_unsettled (settle_of m) t x && not (lt x s.start || lt s.start x)

    stands : (b : Bool) → some_put here s.object m ≡ b → some_put here s.object m ≡ true
    stands true k = k
    stands false k = absurd (true≢false (sym (and-both (is_unsettled (settle_of m) t s.start) (not (lt s.start s.start || lt s.start s.start)) l.bad (ap (λ (c : Bool). not (c || c)) (lt-irreflexive s.start))) ∙ passes-none here s.object m s.start l.value k l.has))

    first : some_put (λ x. is_unsettled (settle_of m) t x && lt x s.start) s.object m ≡ false
    first =
        none-passes (λ x. is_unsettled (settle_of m) t x && lt x s.start) s.object m
        (λ x v h. and-last (is_unsettled (settle_of m) t x) (lt x s.start) (λ u. sym (ap (λ (o : Ordering). is_lt (ordering_then o (time_cmp x s.start))) (tied_itself object_cmp-total s.object)) ∙ l.least s.object x v h u))

    least : (o : ObjectId) → is_lt (object_cmp o s.object) ≡ true → some_put (λ x. is_unsettled (settle_of m) t x && true) o m ≡ false
    least o low =
        none-passes (λ x. is_unsettled (settle_of m) t x && true) o m
        (λ x v h. and-last (is_unsettled (settle_of m) t x) true
        (λ u. absurd (true≢false (sym (ap (λ (k : Ordering). is_lt (ordering_then k (time_cmp x s.start))) (is_less (object_cmp o s.object) low)) ∙ l.least o x v h u))))
