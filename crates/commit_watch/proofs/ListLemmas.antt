-- Rising lists of objects that moved: what they have of an object, and how one more is put into them.
use Rattle.commit_watch.proofs.Names.{◌≡◌, ℕ, zero, suc, ◌+◌, ◌<◌, ◌≤◌, Bool, true, false, List, [], ◌∷◌, ◌++◌, length, take, drop, refl, sym, ◌∙◌, ap, subst, Some, None, if◌then◌else◌, slice_set, slice_index_or, arith, AllWithin, Result, Ok, Err, IsOk, is_ok, ◌==◌, ◌&&◌, is_lt, is_eq, ordering_reverse, ordering_then, nat_cmp, true≢false, false≢true, Every, is_less, ObjectId, object_cmp, same_object, same_object-is, Moved, object_lt, moved_at, AreRising, by_order, with_moved, with_all}
use Rattle.std.specs.List.Sorted.{IsPartitionedBy}
use Rattle.std.proofs.lemmas.Grind.{common_steps}
use Rattle.std.specs.declared.cmp.Ordering.{Ordering}
use Rattle.std.specs.declared.cmp.Ordering.TheVariants.{Less, Equal, Greater}
use Rattle.std.specs.Cmp.{tied_itself}
use Rattle.value_form.proofs.ObjectLemmas.{object_cmp-total, object_cmp-exact}

-- ---- the order of objects

pub behind : (a b : ObjectId) → object_lt a b ≡ true → object_cmp b a ≡ Greater
behind a b h = object_cmp-total.antisymm b a ∙ ap ordering_reverse (is_less (object_cmp a b) h)

pub differs : (a b : ObjectId) → object_lt a b ≡ true → same_object a b ≡ false
unfolding same_object
differs a b h = ap is_eq (is_less (object_cmp a b) h)

pub differs-back : (a b : ObjectId) → object_lt a b ≡ true → same_object b a ≡ false
unfolding same_object
differs-back a b h = ap is_eq (behind a b h)

above-other : (r s : Ordering) → s ≡ ordering_reverse r → is_lt r ≡ false → is_eq r ≡ false → is_lt s ≡ true
above-other Less s e h k = absurd (true≢false h)
above-other Equal s e h k = absurd (true≢false k)
above-other Greater s e h k = ap is_lt e

pub above : (a b : ObjectId) → object_lt a b ≡ false → same_object a b ≡ false → object_lt b a ≡ true
unfolding same_object
above a b h k = above-other (object_cmp a b) (object_cmp b a) (object_cmp-total.antisymm b a) h k

lt-reverse : (r s : Ordering) → s ≡ ordering_reverse r → r ≡ Greater → is_lt s ≡ true
lt-reverse r s e h = ap is_lt (e ∙ ap ordering_reverse h)

pub lt-across : (a b c : ObjectId) → object_lt a b ≡ true → object_lt b c ≡ true → object_lt a c ≡ true
lt-across a b c h k = ap is_lt (object_cmp-total.trans a b c (is_less (object_cmp a b) h) (is_less (object_cmp b c) k))

every-map : {A : Type 0} (P Q : A → Type 0) → ((x : A) → P x → Q x) → (xs : List A) → Every P xs → Every Q xs
every-map P Q f [] h = tt
every-map P Q f (x ∷ xs) h = (f x h.0, every-map P Q f xs h.1)

-- ---- one more is put in

if-same : {A : Type 0} (a b : Bool) (x y z : A) → b ≡ a → (if a then x else y) ≡ (if a then x else (if b then z else y))
if-same true b x y z e = refl
if-same false b x y z e = sym (ap (λ t. if t then z else y) e)

if-swap : {A : Type 0} (a b : Bool) (x y z : A) → (a ≡ true → b ≡ true → ⊥) → (if b then z else (if a then x else y)) ≡ (if a then x else (if b then z else y))
if-swap true true x y z f = absurd (f refl refl)
if-swap true false x y z f = refl
if-swap false b x y z f = refl

module _ {T : Type 0} where
  at-put : (w v : Moved T) (vs : List (Moved T)) (o : ObjectId) (r : Ordering) → object_cmp w.object v.object ≡ r →
      moved_at o (with_moved w vs) ≡ (if same_object w.object o then Some w else moved_at o vs) →
      moved_at o (by_order r (w ∷ v ∷ vs) (w ∷ vs) (v ∷ with_moved w vs)) ≡ (if same_object w.object o then Some w else (if same_object v.object o then Some v else moved_at o vs))
  unfolding moved_at
  at-put w v vs o Less e h = refl
  at-put w v vs o Equal e h = if-same (same_object w.object o) (same_object v.object o) (Some w) (moved_at o vs) (Some v) (ap (λ z. same_object z o) (sym (object_cmp-exact w.object v.object e)))
  at-put w v vs o Greater e h =
      ap (λ z. if same_object v.object o then Some v else z) h
      ∙ if-swap (same_object w.object o) (same_object v.object o) (Some w) (moved_at o vs) (Some v)
      (λ p q. absurd (false≢true (sym (ap is_eq e) ∙ same-cmp (same_object-is w.object o p ∙ sym (same_object-is v.object o q)))))
    where
      same-cmp : w.object ≡ v.object → is_eq (object_cmp w.object v.object) ≡ true
      same-cmp p = subst (λ z. is_eq (object_cmp w.object z) ≡ true) p (ap is_eq (tied_itself object_cmp-total w.object))

  -- what a list has once one more is put in
  pub moved-with : (w : Moved T) (vs : List (Moved T)) (o : ObjectId) → moved_at o (with_moved w vs) ≡ (if same_object w.object o then Some w else moved_at o vs)
  unfolding moved_at with_moved
  moved-with w [] o = refl
  moved-with w (v ∷ vs) o = at-put w v vs o (object_cmp w.object v.object) refl (moved-with w vs o)

  every-put : (P : Moved T → Type 0) (w v : Moved T) (vs : List (Moved T)) (r : Ordering) → P w → P v → Every P vs → Every P (with_moved w vs) → Every P (by_order r (w ∷ v ∷ vs) (w ∷ vs) (v ∷ with_moved w vs))
  every-put P w v vs Less p q h k = (p, (q, h))
  every-put P w v vs Equal p q h k = (p, h)
  every-put P w v vs Greater p q h k = (q, k)

  every-with : (P : Moved T → Type 0) (w : Moved T) (vs : List (Moved T)) → P w → Every P vs → Every P (with_moved w vs)
  unfolding with_moved
  every-with P w [] p h = (p, tt)
  every-with P w (v ∷ vs) p h = every-put P w v vs (object_cmp w.object v.object) p h.0 h.1 (every-with P w vs p h.1)

  rising-put : (w v : Moved T) (vs : List (Moved T)) (r : Ordering) → object_cmp w.object v.object ≡ r → AreRising (v ∷ vs) → AreRising (with_moved w vs) → AreRising (by_order r (w ∷ v ∷ vs) (w ∷ vs) (v ∷ with_moved w vs))
  rising-put w v vs Less e h k =
      ((ap is_lt e, every-map (λ u. object_lt v.object u.object ≡ true) (λ u. object_lt w.object u.object ≡ true) (λ u l. lt-across w.object v.object u.object (ap is_lt e) l) vs h.0), h)
  rising-put w v vs Equal e h k =
      (every-map (λ u. object_lt v.object u.object ≡ true) (λ u. object_lt w.object u.object ≡ true) (λ u l. subst (λ z. object_lt z u.object ≡ true) (sym (object_cmp-exact w.object v.object e)) l) vs h.0, h.1)
  rising-put w v vs Greater e h k =
      (every-with (λ u. object_lt v.object u.object ≡ true) w vs (lt-reverse (object_cmp w.object v.object) (object_cmp v.object w.object) (object_cmp-total.antisymm v.object w.object) e) h.0, k)

  pub rising-with : (w : Moved T) (vs : List (Moved T)) → AreRising vs → AreRising (with_moved w vs)
  unfolding with_moved
  rising-with w [] h = (tt, tt)
  rising-with w (v ∷ vs) h = rising-put w v vs (object_cmp w.object v.object) refl h (rising-with w vs h.1)

  pub rising-all : (cs ws : List (Moved T)) → AreRising ws → AreRising (with_all cs ws)
  unfolding with_all
  rising-all [] ws h = h
  rising-all (c ∷ cs) ws h = rising-all cs (with_moved c ws) (rising-with c ws h)

  pub all-more : (cs ws : List (Moved T)) (c : Moved T) → with_all (cs ++ c ∷ []) ws ≡ with_moved c (with_all cs ws)
  unfolding with_all
  all-more [] ws c = refl
  all-more (d ∷ cs) ws c = all-more cs (with_moved d ws) c

  -- ---- by place

  -- those in front are of lesser objects
  abbrev pub Front : ObjectId → List (Moved T) → ℕ → Type 0
  Front o ws i = AllWithin (λ w. object_lt w.object o ≡ true) ws 0 i

  abbrev pub Back : ObjectId → List (Moved T) → ℕ → Type 0
  Back o ws i = AllWithin (λ w. object_lt w.object o ≡ false) ws i (length ws)

  front-tail : (o : ObjectId) (w : Moved T) (ws : List (Moved T)) (i : ℕ) → Front o (w ∷ ws) (suc i) → Front o ws i
  front-tail o w ws i h k d l m = h (suc k) d (omega arith) (omega arith)

  back-tail : (o : ObjectId) (w : Moved T) (ws : List (Moved T)) (i : ℕ) → Back o (w ∷ ws) (suc i) → Back o ws i
  back-tail o w ws i h k d l m = h (suc k) d (omega arith) (omega arith)

  pub at-found : (ws : List (Moved T)) (i : ℕ) (o : ObjectId) (d : Moved T) → i < length ws → Front o ws i → same_object (slice_index_or ws i d).object o ≡ true → moved_at o ws ≡ Some (slice_index_or ws i d)
  unfolding moved_at
  at-found [] i o d l f s = absurd (omega arith)
  at-found (w ∷ ws) zero o d l f s = ap (λ t. if t then Some w else moved_at o ws) s
  at-found (w ∷ ws) (suc i) o d l f s =
      ap (λ t. if t then Some w else moved_at o ws) (differs w.object o (f 0 d (omega arith) (omega arith))) ∙ at-found ws i o d (omega arith) (front-tail o w ws i f) s

  none-behind : (o : ObjectId) (ws : List (Moved T)) → Every (λ v. object_lt o v.object ≡ true) ws → moved_at o ws ≡ None
  unfolding moved_at
  none-behind o [] h = refl
  none-behind o (w ∷ ws) h = ap (λ t. if t then Some w else moved_at o ws) (differs-back o w.object h.0) ∙ none-behind o ws h.1

  -- the next after those in front is of another object, where there is one
  abbrev pub Gap : ObjectId → List (Moved T) → ℕ → Type 0
  Gap o ws i = (d : Moved T) → i < length ws → same_object (slice_index_or ws i d).object o ≡ false

  gap-first : (o : ObjectId) (w : Moved T) (ws : List (Moved T)) → AreRising (w ∷ ws) → Back o (w ∷ ws) 0 → Gap o (w ∷ ws) 0 → Every (λ v. object_lt o v.object ≡ true) (w ∷ ws)
  gap-first o w ws r b g =
      let first : object_lt o w.object ≡ true = above w.object o (b 0 w (omega arith) (omega arith)) (g w (omega arith)) in
      (first, every-map (λ u. object_lt w.object u.object ≡ true) (λ u. object_lt o u.object ≡ true) (λ u l. lt-across o w.object u.object first l) ws r.0)

  pub at-gap : (ws : List (Moved T)) (i : ℕ) (o : ObjectId) → AreRising ws → i ≤ length ws → Front o ws i → Back o ws i → Gap o ws i → moved_at o ws ≡ None
  unfolding moved_at
  at-gap [] i o r l f b g = refl
  at-gap (w ∷ ws) zero o r l f b g = none-behind o (w ∷ ws) (gap-first o w ws r b g)
  at-gap (w ∷ ws) (suc i) o r l f b g =
      ap (λ t. if t then Some w else moved_at o ws) (differs w.object o (f 0 w (omega arith) (omega arith)))
      ∙ at-gap ws i o r.1 (omega arith) (front-tail o w ws i f) (back-tail o w ws i b) (λ d k. g d (omega arith))

  pub set-found : (ws : List (Moved T)) (i : ℕ) (c d : Moved T) → i < length ws → Front c.object ws i → same_object (slice_index_or ws i d).object c.object ≡ true → slice_set ws i c ≡ with_moved c ws
  unfolding with_moved
  set-found [] i c d l f s = absurd (omega arith)
  set-found (w ∷ ws) zero c d l f s =
      sym (ap (λ r. by_order r (c ∷ w ∷ ws) (c ∷ ws) (w ∷ with_moved c ws)) (subst (λ z. object_cmp c.object z ≡ Equal) (sym (same_object-is w.object c.object s)) (tied_itself object_cmp-total c.object)))
  set-found (w ∷ ws) (suc i) c d l f s =
      ap (λ z. w ∷ z) (set-found ws i c d (omega arith) (front-tail c.object w ws i f) s)
      ∙ sym (ap (λ r. by_order r (c ∷ w ∷ ws) (c ∷ ws) (w ∷ with_moved c ws)) (behind w.object c.object (f 0 d (omega arith) (omega arith))))

  pub insert-gap : (ws : List (Moved T)) (i : ℕ) (c : Moved T) → AreRising ws → i ≤ length ws → Front c.object ws i → Back c.object ws i → Gap c.object ws i → take i ws ++ c ∷ drop i ws ≡ with_moved c ws
  unfolding with_moved
  insert-gap [] zero c r l f b g = refl
  insert-gap [] (suc i) c r l f b g = absurd (omega arith)
  insert-gap (w ∷ ws) zero c r l f b g =
      sym (ap (λ r. by_order r (c ∷ w ∷ ws) (c ∷ ws) (w ∷ with_moved c ws)) (is_less (object_cmp c.object w.object) ((gap-first c.object w ws r b g).0)))
  insert-gap (w ∷ ws) (suc i) c r l f b g =
      ap (λ z. w ∷ z) (insert-gap ws i c r.1 (omega arith) (front-tail c.object w ws i f) (back-tail c.object w ws i b) (λ d k. g d (omega arith)))
      ∙ sym (ap (λ r. by_order r (c ∷ w ∷ ws) (c ∷ ws) (w ∷ with_moved c ws)) (behind w.object c.object (f 0 w (omega arith) (omega arith))))

  -- ---- as a search by halves goes

  lesser-tail : (o : ObjectId) (w : Moved T) (ws : List (Moved T)) → AreRising (w ∷ ws) → (j : ℕ) (d : Moved T) → j < length ws → object_lt (slice_index_or ws j d).object o ≡ true → object_lt w.object o ≡ true
  lesser-tail o w ws r j d l h = lt-across w.object (slice_index_or ws j d).object o (every-at ws j d r.0 l) h
    where
      every-at : (vs : List (Moved T)) (j : ℕ) (d : Moved T) → Every (λ v. object_lt w.object v.object ≡ true) vs → j < length vs → object_lt w.object (slice_index_or vs j d).object ≡ true
      every-at [] j d e l = absurd (omega arith)
      every-at (v ∷ vs) zero d e l = e.0
      every-at (v ∷ vs) (suc j) d e l = every-at vs j d e.1 (omega arith)

  pub partitioned : (o : ObjectId) (ws : List (Moved T)) → AreRising ws → IsPartitionedBy (λ w. object_lt w.object o) ws
  partitioned o [] r i j d l k h = absurd (omega arith)
  partitioned o (w ∷ ws) r zero zero d l k h = h
  partitioned o (w ∷ ws) r zero (suc j) d l k h = lesser-tail o w ws r j d (omega arith) h
  partitioned o (w ∷ ws) r (suc i) zero d l k h = absurd (omega arith)
  partitioned o (w ∷ ws) r (suc i) (suc j) d l k h = partitioned o ws r.1 i j d (omega arith) (omega arith) h

  pub in-range : (ws : List (Moved T)) (i : ℕ) (d e : Moved T) → i < length ws → slice_index_or ws i d ≡ slice_index_or ws i e
  in-range [] i d e l = absurd (omega arith)
  in-range (w ∷ ws) zero d e l = refl
  in-range (w ∷ ws) (suc i) d e l = in-range ws i d e (omega arith)

  pub when-ok : {A E : Type 0} (r : Result A E) (xs ys : List (Moved T)) → IsOk r → (if is_ok r then xs else ys) ≡ xs
  when-ok (Ok x) xs ys h = refl
  when-ok (Err e) xs ys h = absurd (false≢true h)

  pub put-found : (ws us bs : List (Moved T)) (i : ℕ) (c d : Moved T) → us ≡ ws → bs ≡ ws → i < length bs → Front c.object us i → same_object (slice_index_or bs i d).object c.object ≡ true → slice_set ws i c ≡ with_moved c ws
  put-found ws us bs i c d e h l f s =
      set-found ws i c d (subst (λ z. i < length z) h l) (subst (λ z. Front c.object z i) e f) (subst (λ z. same_object (slice_index_or z i d).object c.object ≡ true) h s)

  pub put-gap : (ws us bs : List (Moved T)) (i : ℕ) (c : Moved T) → us ≡ ws → bs ≡ ws → AreRising ws → i ≤ length us → Front c.object us i → Back c.object us i → Gap c.object bs i → take i ws ++ c ∷ drop i ws ≡ with_moved c ws
  put-gap ws us bs i c e h r l f b g =
      insert-gap ws i c r (subst (λ z. i ≤ length z) e l) (subst (λ z. Front c.object z i) e f) (subst (λ z. Back c.object z i) e b) (subst (λ z. Gap c.object z i) h g)

-- ---- the test that is derived

level : (a b : ℕ) → is_eq (nat_cmp a b) ≡ (a == b)
level a b = grind (arith, common_steps)

both-levels : (o p : Ordering) → is_eq (ordering_then o p) ≡ (is_eq o && is_eq p)
both-levels Less p = refl
both-levels Equal p = refl
both-levels Greater p = refl

pub same-parts : (a b : ObjectId) → (a.repository == b.repository && a.number == b.number) ≡ same_object a b
unfolding same_object
same-parts a b =
    sym (both-levels (nat_cmp a.repository b.repository) (nat_cmp a.number b.number)
    ∙ ap (λ z. z && is_eq (nat_cmp a.number b.number)) (level a.repository b.repository)
    ∙ ap (λ z. (a.repository == b.repository) && z) (level a.number b.number))

module _ {T : Type 0} where
  pub is-at-found : (ws : List (Moved T)) (i : ℕ) (o : ObjectId) (e : Moved T) (b : Bool) →
      b ≡ ((slice_index_or ws i e).object.repository == o.repository && (slice_index_or ws i e).object.number == o.number) → i < length ws →
      b ≡ true → (i < length ws) × ((d : Moved T) → same_object (slice_index_or ws i d).object o ≡ true)
  is-at-found ws i o e b is l h = (l, λ d. ap (λ (z : Moved T). same_object z.object o) (in-range ws i d e l) ∙ sym (same-parts (slice_index_or ws i e).object o) ∙ sym is ∙ h)

  pub is-at-other : (ws : List (Moved T)) (i : ℕ) (o : ObjectId) (e : Moved T) (b : Bool) →
      b ≡ ((slice_index_or ws i e).object.repository == o.repository && (slice_index_or ws i e).object.number == o.number) → i < length ws →
      b ≡ false → (d : Moved T) → i < length ws → same_object (slice_index_or ws i d).object o ≡ false
  is-at-other ws i o e b is l h d k = ap (λ (z : Moved T). same_object z.object o) (in-range ws i d e l) ∙ sym (same-parts (slice_index_or ws i e).object o) ∙ sym is ∙ h

  -- ---- as the code goes

  pub rising-put-in : (c : Moved T) (xs ys zs : List (Moved T)) → zs ≡ with_moved c ys → ys ≡ xs → AreRising xs → AreRising zs
  rising-put-in c xs ys zs e h r = subst AreRising (sym (e ∙ ap (with_moved c) h)) (rising-with c xs r)

  pub rising-put-all : (cs xs ys zs : List (Moved T)) → zs ≡ with_all cs ys → ys ≡ xs → AreRising xs → AreRising zs
  rising-put-all cs xs ys zs e h r = subst AreRising (sym (e ∙ ap (with_all cs) h)) (rising-all cs xs r)

  pub all-step : (cs ds ws us zs : List (Moved T)) (c : Moved T) → cs ≡ c ∷ ds → us ≡ with_moved c ws → with_all cs ws ≡ zs → with_all ds us ≡ zs
  unfolding with_all
  all-step cs ds ws us zs c e h k = ap (with_all ds) h ∙ sym (ap (λ z. with_all z ws) e) ∙ k

  pub all-done : (cs ws zs : List (Moved T)) → cs ≡ [] → with_all cs ws ≡ zs → ws ≡ zs
  unfolding with_all
  all-done cs ws zs e k = sym (ap (λ z. with_all z ws) e) ∙ k
