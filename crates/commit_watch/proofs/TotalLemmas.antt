-- A total stays that of the rule over all of an object's settled versions up to its cursor.
use Rattle.commit_watch.proofs.Names.{◌≡◌, ◌≢◌, Bool, true, false, List, [], ◌∷◌, ◌++◌, map, filter, refl, sym, ◌∙◌, ap, subst, Option, Some, None, ◌&&◌, not, if◌then◌else◌, ◌⊎◌, Result, Ok, Err, inl, inr, true≢false, false≢true, Every, Has, TimeParts, lt, lt-irreflexive, lt-trans, lt-total, lt-split, ObjectId, Mark, Put, Stretch, Settle, Floor, same_object, Seen, version_count, floor_of, settle_of, is_committed, insert, listed, settled_versions, is_blocked, Adds, same_object-is, and-left, not-false, not-true, Version, Moved, WatchFault, cursor_of, total_of, version_of, fresh, is_retired, unless_retired, and_then, moved_to, moved_over, advanced}
use Rattle.object_history.specs.Views.{Starts, Distinct}
use Rattle.object_history.proofs.SettledLemmas.{listed-passes, settled-prefix}
use Rattle.commit_watch.specs.Totals.{IsTotal}
use Rattle.commit_watch.proofs.StandingLemmas.{Sorted, sorted-listed, every-in}

-- ---- a rising list cut at a time

keep-all : (p : Seen → Bool) (qs : List Seen) → Every (λ q. p q ≡ true) qs → filter p qs ≡ qs
keep-all p [] h = refl
keep-all p (q ∷ qs) h = ap (λ b. if b then q ∷ filter p qs else filter p qs) h.0 ∙ ap (λ z. q ∷ z) (keep-all p qs h.1)

keep-none : (p : Seen → Bool) (qs : List Seen) → Every (λ q. p q ≡ false) qs → filter p qs ≡ []
keep-none p [] h = refl
keep-none p (q ∷ qs) h = ap (λ b. if b then q ∷ filter p qs else filter p qs) h.0 ∙ keep-none p qs h.1

every-map : (P Q : Seen → Type 0) → ((q : Seen) → P q → Q q) → (qs : List Seen) → Every P qs → Every Q qs
every-map P Q f [] h = tt
every-map P Q f (q ∷ qs) h = (f q h.0, every-map P Q f qs h.1)

cut-if : (b : Bool) (c : TimeParts) (q : Seen) (qs : List Seen) → lt c q.start ≡ b → Sorted (q ∷ qs) → filter (λ p. not (lt c p.start)) qs ++ filter (λ p. lt c p.start) qs ≡ qs →
    (if not b then q ∷ filter (λ p. not (lt c p.start)) qs else filter (λ p. not (lt c p.start)) qs) ++ (if b then q ∷ filter (λ p. lt c p.start) qs else filter (λ p. lt c p.start) qs) ≡ q ∷ qs
cut-if false c q qs e s h = ap (λ z. q ∷ z) h
cut-if true c q qs e s h =
    let over : Every (λ (p : Seen). lt c p.start ≡ true) qs = every-map (λ p. lt p.start q.start ≡ false) (λ p. lt c p.start ≡ true) (λ p l. lt-split c p.start q.start e l) qs s.0 in
    ap (λ z. z ++ (q ∷ filter (λ p. lt c p.start) qs)) (keep-none (λ p. not (lt c p.start)) qs (every-map (λ p. lt c p.start ≡ true) (λ p. not (lt c p.start) ≡ false) (λ p l. ap not l) qs over))
    ∙ ap (λ z. q ∷ z) (keep-all (λ p. lt c p.start) qs over)

cut : (c : TimeParts) (qs : List Seen) → Sorted qs → filter (λ p. not (lt c p.start)) qs ++ filter (λ p. lt c p.start) qs ≡ qs
cut c [] s = refl
cut c (q ∷ qs) s = cut-if (lt c q.start) c q qs refl s (cut c qs s.1)

map-append : (o : ObjectId) (ps qs : List Seen) → map (version_of o) (ps ++ qs) ≡ map (version_of o) ps ++ map (version_of o) qs
map-append o [] qs = refl
map-append o (p ∷ ps) qs = ap (λ z. version_of o p ∷ z) (map-append o ps qs)

and-true : (b : Bool) → (b && true) ≡ b
and-true true = refl
and-true false = refl

keep-plain : (p : TimeParts → Bool) (qs : List Seen) → filter (λ q. p q.start && true) qs ≡ filter (λ q. p q.start) qs
keep-plain p [] = refl
keep-plain p (q ∷ qs) = ap (λ b. if b then q ∷ filter (λ z. p z.start && true) qs else filter (λ z. p z.start && true) qs) (and-true (p q.start)) ∙ ap (λ z. if p q.start then q ∷ z else z) (keep-plain p qs)

every-true : (qs : List Seen) → Every (λ (q : Seen). true ≡ true) qs
every-true [] = tt
every-true (q ∷ qs) = (refl, every-true qs)

-- ---- folds

module _ {T : Type 0} (first : T) (next : T → Version → Option T) (o : ObjectId) where
  abbrev over : Option (Moved T) → List Version → Result (Option (Moved T)) WatchFault
  over w vs = moved_over first next o w vs

  joins : (r : Result (Option (Moved T)) WatchFault) (f g : Option (Moved T) → Result (Option (Moved T)) WatchFault) (h : Option (Moved T) → Result (Option (Moved T)) WatchFault) → ((u : Option (Moved T)) → f u ≡ and_then (g u) h) → and_then r f ≡ and_then (and_then r g) h
  joins (Ok u) f g h e = e u
  joins (Err e) f g h k = refl

  over-append : (w : Option (Moved T)) (vs us : List Version) → over w (vs ++ us) ≡ and_then (over w vs) (λ u. over u us)
  unfolding moved_over
  over-append w [] us = refl
  over-append w (v ∷ vs) us = joins (moved_to first next o v (next (total_of first w) v)) (λ u. over u (vs ++ us)) (λ u. over u vs) (λ u. over u us) (λ u. over-append u vs us)

  -- the cursor is no less than any start that was folded
  abbrev Tops : Moved T → List Seen → Type 0
  Tops u qs = Every (λ q. lt u.cursor q.start ≡ false) qs

  same-some : (u v : Moved T) → ◌≡◌ {A = Result (Option (Moved T)) WatchFault} (Ok (Some u)) (Ok (Some v)) → u ≡ v
  same-some u v e = ap (λ r. inner r u) e
    where
      inner : Result (Option (Moved T)) WatchFault → Moved T → Moved T
      inner (Ok (Some z)) d = z
      inner (Ok None) d = d
      inner (Err k) d = d

  tops-first : (q : Seen) (qs : List Seen) (w u : Moved T) → w.cursor ≡ q.start → Sorted (q ∷ qs) → over (Some w) (map (version_of o) qs) ≡ Ok (Some u) → (qs ≡ [] → ⊥) ⊎ (qs ≡ []) → Tops u qs → lt u.cursor q.start ≡ false
  unfolding moved_over
  tops-first q [] w u c s h d t = subst (λ z. lt z q.start ≡ false) (sym c ∙ ap (λ (z : Moved T). z.cursor) (same-some w u h)) (lt-irreflexive q.start)
  tops-first q (r ∷ rs) w u c s h d t = not-false (lt u.cursor q.start) (λ e. true≢false (sym (lt-split u.cursor r.start q.start e s.0.0) ∙ t.0))

  is_ok_some : Result (Option (Moved T)) WatchFault → Bool
  is_ok_some (Ok None) = false
  is_ok_some (Ok (Some u)) = true
  is_ok_some (Err e) = false

  tops-on : (q : Seen) (qs : List Seen) (t : Option T) (u : Moved T) → Sorted (q ∷ qs) → and_then (moved_to first next o (version_of o q) t) (λ w. over w (map (version_of o) qs)) ≡ Ok (Some u) →
      ((w : Moved T) → over (Some w) (map (version_of o) qs) ≡ Ok (Some u) → Tops u qs) → Tops u (q ∷ qs)
  unfolding is_ok_some
  tops-on q qs None u s h rest = absurd (false≢true (ap is_ok_some h))
  tops-on q qs (Some t) u s h rest =
      let w : Moved T = record { object = o; cursor = q.start; total = t } in
      let more = rest w h in
      (tops-first q qs w u refl s h (none-or qs) more, more)
    where
      none-or : (qs : List Seen) → (qs ≡ [] → ⊥) ⊎ (qs ≡ [])
      none-or [] = inr refl
      none-or (r ∷ rs) = inl (λ e. false≢true (ap is_none e))
        where
          is_none : List Seen → Bool
          is_none [] = true
          is_none (z ∷ zs) = false

  tops-some : (qs : List Seen) (w u : Moved T) → Sorted qs → over (Some w) (map (version_of o) qs) ≡ Ok (Some u) → Tops u qs
  unfolding moved_over
  tops-some [] w u s h = tt
  tops-some (q ∷ qs) w u s h = tops-on q qs (next w.total (version_of o q)) u s h (λ z k. tops-some qs z u s.1 k)

  tops-none : (qs : List Seen) (u : Moved T) → Sorted qs → over None (map (version_of o) qs) ≡ Ok (Some u) → Tops u qs
  unfolding moved_over
  tops-none [] u s h = tt
  tops-none (q ∷ qs) u s h = tops-on q qs (next first (version_of o q)) u s h (λ z k. tops-some qs z u s.1 k)

  -- ---- a watch advances

  folds-all : (m : List Mark) (u : Option (Moved T)) → over None (map (version_of o) (settled_versions m o)) ≡ Ok u → IsTotal first next m o u
  folds-all m None h = tt
  folds-all m (Some u) h =
      ap (λ qs. over None (map (version_of o) qs)) (keep-all (λ q. not (lt u.cursor q.start)) (settled_versions m o)
      (every-map (λ q. lt u.cursor q.start ≡ false) (λ q. not (lt u.cursor q.start) ≡ true) (λ q l. ap not l) (settled_versions m o)
      (tops-none (settled_versions m o) u (sorted-listed (λ x. is_committed (settle_of m x.stamp) && not (is_blocked m o x)) o m) h))) ∙ h

  went : (b : Bool) (e : Option TimeParts) (r : Result (Option (Moved T)) WatchFault) (u : Option (Moved T)) → unless_retired b o e r ≡ Ok u → r ≡ Ok u
  went false e r u h = h
  went true None r u h = h
  went true (Some x) r u h = absurd (false≢true (ap is_fine h))
    where
      is_fine : Result (Option (Moved T)) WatchFault → Bool
      is_fine (Ok z) = true
      is_fine (Err z) = false

  over-all : (m : List Mark) (w u : Option (Moved T)) → IsTotal first next m o w → over w (fresh m o (cursor_of w) None) ≡ Ok u → over None (map (version_of o) (settled_versions m o)) ≡ Ok u
  over-all m None u t h = sym (ap (λ qs. over None (map (version_of o) qs)) (keep-all (λ q. true) (settled_versions m o) (every-true (settled_versions m o)))) ∙ h
  over-all m (Some w) u t h =
      let qs = settled_versions m o in
      let low = filter (λ (q : Seen). not (lt w.cursor q.start)) qs in
      let high = filter (λ (q : Seen). lt w.cursor q.start) qs in
      ap (λ z. over None (map (version_of o) z)) (sym (cut w.cursor qs (sorted-listed (λ x. is_committed (settle_of m x.stamp) && not (is_blocked m o x)) o m)))
      ∙ ap (over None) (map-append o low high)
      ∙ over-append None (map (version_of o) low) (map (version_of o) high)
      ∙ ap (λ r. and_then r (λ z. over z (map (version_of o) high))) t
      ∙ ap (λ z. over (Some w) (map (version_of o) z)) (sym (keep-plain (λ x. lt w.cursor x) qs))
      ∙ h

  -- what a watch makes of a total is a total
  pub total-advanced : (m : List Mark) (w u : Option (Moved T)) → IsTotal first next m o w → advanced first next o m None w ≡ Ok u → IsTotal first next m o u
  total-advanced m w u t h = folds-all m u (over-all m w u t (went (is_retired m o (cursor_of w)) (floor_of m) (over w (fresh m o (cursor_of w) None)) u h))

-- ---- a mark is added

abbrev Strict : List Seen → Type 0
Strict [] = Unit {0}
Strict (q ∷ qs) = Every (λ p. lt q.start p.start ≡ true) qs × Strict qs

strict-if : (b : Bool) (q p : Seen) (ps : List Seen) → lt q.start p.start ≡ b → (p.start ≡ q.start → ⊥) → Strict (p ∷ ps) → Strict (insert q ps) → Strict (if b then q ∷ p ∷ ps else p ∷ insert q ps)
strict-if true q p ps e n h k = ((e, every-map (λ r. lt p.start r.start ≡ true) (λ r. lt q.start r.start ≡ true) (λ r l. lt-trans q.start p.start r.start e l) ps h.0), h)
strict-if false q p ps e n h k = (every-in (λ r. lt p.start r.start ≡ true) q ps (not-true (lt p.start q.start) (λ l. n (lt-total p.start q.start l e))) h.0, k)

strict-insert : (q : Seen) (ps : List Seen) → Every (λ p. p.start ≡ q.start → ⊥) ps → Strict ps → Strict (insert q ps)
unfolding insert
strict-insert q [] n h = (tt, tt)
strict-insert q (p ∷ ps) n h = strict-if (lt q.start p.start) q p ps refl n.0 h (strict-insert q ps n.1 h.1)

strict-put : (b : Bool) (q : Seen) (ps : List Seen) → (b ≡ true → Every (λ p. p.start ≡ q.start → ⊥) ps) → Strict ps → Strict (if b then insert q ps else ps)
strict-put true q ps n h = strict-insert q ps (n refl) h
strict-put false q ps n h = h

strict-listed : (f : TimeParts → Bool) (o : ObjectId) (m : List Mark) → Distinct m → Strict (listed f o m)
unfolding listed
strict-listed f o [] d = tt
strict-listed f o (Put a x v ∷ m) d =
    strict-put (same_object a o && f x) (record { place = version_count o m; start = x; value = v }) (listed f o m)
    (λ e. every-map (λ q. (q.start ≢ x) × (f q.start ≡ true)) (λ q. q.start ≡ x → ⊥) (λ q h. h.0) (listed f o m)
    (listed-passes (λ y. y ≢ x) f o m (subst (λ z. Starts (λ y. y ≢ x) z m) (same_object-is a o (and-left (same_object a o) (f x) e)) d.0)))
    (strict-listed f o m d.1)
strict-listed f o (Stretch a x ∷ m) d = strict-listed f o m d
strict-listed f o (Settle s c ∷ m) d = strict-listed f o m d
strict-listed f o (Floor z ∷ m) d = strict-listed f o m d

-- what stands in front lies below what stands behind
strict-front : (ps qs : List Seen) (r : Seen) → Strict (ps ++ qs) → Has r qs → Every (λ p. lt p.start r.start ≡ true) ps
strict-front [] qs r s h = tt
strict-front (p ∷ ps) qs r s h = (at-behind ps s.0, strict-front ps qs r s.1 h)
  where
    in-list : (zs : List Seen) → Every (λ z. lt p.start z.start ≡ true) zs → Has r zs → lt p.start r.start ≡ true
    in-list [] k l = absurd l
    in-list (z ∷ zs) k (inl e) = subst (λ u. lt p.start u.start ≡ true) e k.0
    in-list (z ∷ zs) k (inr l) = in-list zs k.1 l

    at-behind : (zs : List Seen) → Every (λ z. lt p.start z.start ≡ true) (zs ++ qs) → lt p.start r.start ≡ true
    at-behind [] k = in-list qs k h
    at-behind (z ∷ zs) k = at-behind zs k.1

every-of : (P : Seen → Type 0) (all qs : List Seen) → ((q : Seen) → Has q qs → P q) → Every P qs
every-of P all [] f = tt
every-of P all (q ∷ qs) f = (f q (inl refl), every-of P all qs (λ p h. f p (inr h)))

filter-append : (p : Seen → Bool) (ps qs : List Seen) → filter p (ps ++ qs) ≡ filter p ps ++ filter p qs
filter-append p [] qs = refl
filter-append p (q ∷ ps) qs = ap (λ z. if p q then q ∷ z else z) (filter-append p ps qs) ∙ keep (p q)
  where
    keep : (b : Bool) → (if b then q ∷ (filter p ps ++ filter p qs) else filter p ps ++ filter p qs) ≡ (if b then q ∷ filter p ps else filter p ps) ++ filter p qs
    keep true = refl
    keep false = refl

append-none : (qs : List Seen) → qs ++ [] ≡ qs
append-none [] = refl
append-none (q ∷ qs) = ap (λ z. q ∷ z) (append-none qs)

every-kept : (P : Seen → Type 0) (p : Seen → Bool) (qs : List Seen) → Every P qs → Every P (filter p qs)
every-kept P p [] h = tt
every-kept P p (q ∷ qs) h = keep (p q) (every-kept P p qs h.1)
  where
    keep : (b : Bool) → Every P (filter p qs) → Every P (if b then q ∷ filter p qs else filter p qs)
    keep true k = (h.0, k)
    keep false k = k

module _ {T : Type 0} (first : T) (next : T → Version → Option T) (o : ObjectId) where
  abbrev folds : Option (Moved T) → List Seen → Result (Option (Moved T)) WatchFault
  folds w qs = moved_over first next o w (map (version_of o) qs)

  abbrev is_moved : Result (Option (Moved T)) WatchFault → Bool
  is_moved (Ok None) = false
  is_moved (Ok (Some u)) = true
  is_moved (Err e) = false

  abbrev inner : Result (Option (Moved T)) WatchFault → Moved T → Moved T
  inner (Ok (Some z)) d = z
  inner (Ok None) d = d
  inner (Err k) d = d

  -- what lies above all that was folded lies above the cursor
  below-on : (q : Seen) (qs : List Seen) (t : Option T) (u : Moved T) (z : TimeParts) → lt q.start z ≡ true → and_then (moved_to first next o (version_of o q) t) (λ w. folds w qs) ≡ Ok (Some u) →
      ((w : Moved T) → lt w.cursor z ≡ true → folds (Some w) qs ≡ Ok (Some u) → lt u.cursor z ≡ true) → lt u.cursor z ≡ true
  below-on q qs None u z l h rest = absurd (false≢true (ap is_moved h))
  below-on q qs (Some t) u z l h rest = rest (record { object = o; cursor = q.start; total = t }) l h

  below-some : (qs : List Seen) (w u : Moved T) (z : TimeParts) → Every (λ q. lt q.start z ≡ true) qs → lt w.cursor z ≡ true → folds (Some w) qs ≡ Ok (Some u) → lt u.cursor z ≡ true
  unfolding moved_over
  below-some [] w u z e l h = subst (λ v. lt v.cursor z ≡ true) (ap (λ r. inner r w) h) l
  below-some (q ∷ qs) w u z e l h = below-on q qs (next w.total (version_of o q)) u z e.0 h (λ v k i. below-some qs v u z e.1 k i)

  below-none : (qs : List Seen) (u : Moved T) (z : TimeParts) → Every (λ q. lt q.start z ≡ true) qs → folds None qs ≡ Ok (Some u) → lt u.cursor z ≡ true
  unfolding moved_over
  below-none [] u z e h = absurd (false≢true (ap is_moved h))
  below-none (q ∷ qs) u z e h = below-on q qs (next first (version_of o q)) u z e.0 h (λ v k i. below-some qs v u z e.1 k i)

  -- a total stays one when a mark is added
  pub total-kept : (m : List Mark) (f : Mark) (w : Option (Moved T)) → Adds m f → Distinct (f ∷ m) → IsTotal first next m o w → IsTotal first next (f ∷ m) o w
  total-kept m f None a d t = tt
  total-kept m f (Some w) a d t =
      let qs = settled_versions m o in
      let more = settled-prefix m f o a in
      let low : Seen → Bool = λ q. not (lt w.cursor q.start) in
      let strict : Strict (qs ++ more.0) = subst Strict more.1 (strict-listed (λ x. is_committed (settle_of (f ∷ m) x.stamp) && not (is_blocked (f ∷ m) o x)) o (f ∷ m) d) in
      let over : Every (λ (r : Seen). lt w.cursor r.start ≡ true) more.0 = every-of (λ r. lt w.cursor r.start ≡ true) more.0 more.0
      (λ r h. below-none (filter low qs) w r.start (every-kept (λ q. lt q.start r.start ≡ true) low qs (strict-front qs more.0 r strict h)) t) in
      ap (folds None) (ap (filter low) more.1 ∙ filter-append low qs more.0
      ∙ ap (λ z. filter low qs ++ z) (keep-none low more.0 (every-map (λ r. lt w.cursor r.start ≡ true) (λ r. low r ≡ false) (λ r l. ap not l) more.0 over))
      ∙ append-none (filter low qs)) ∙ t
