-- Listings of versions, by what stands in them.
use Rattle.archive_law.proofs.Names.{Every, Has, lt, TimeParts, lt-irreflexive, ObjectId, Value, Mark, Put, same_object, Seen, version_count, some_put, insert, listed, Distinct, Starts, and-both, and-left, and-right, same_object-is, same_object-of, WatchFault, Moved, Version, moved_over, version_of, Rises, ◌≡◌, ◌≢◌, Bool, true, false, List, [], ◌∷◌, ◌++◌, map, filter, refl, sym, ◌∙◌, ap, subst, Option, Some, None, ◌&&◌, ◌||◌, not, if◌then◌else◌, ◌⊎◌, inl, inr, Result, Ok, Err, true≢false, false≢true, every-has, every-map, lt-asymmetric, lt-total, lt-trans, not-true, and_then, moved_to, total_of}
use Rattle.object_history.proofs.SettledLemmas.{listed-passes}

-- ---- what is listed

insert-has : (q p : Seen) (ps : List Seen) → Has q (insert p ps) → (p ≡ q) ⊎ Has q ps
unfolding insert
insert-has q p [] (inl e) = inl e
insert-has q p [] (inr h) = absurd h
insert-has q p (r ∷ ps) h = go (lt p.start r.start) (insert-has q p ps) h
  where
    go : (b : Bool) → (Has q (insert p ps) → (p ≡ q) ⊎ Has q ps) → Has q (if b then p ∷ r ∷ ps else r ∷ insert p ps) → (p ≡ q) ⊎ Has q (r ∷ ps)
    go true rest (inl e) = inl e
    go true rest (inr k) = inr k
    go false rest (inl e) = inr (inl e)
    go false rest (inr k) = elim (rest k) [ inl e ↦ inl e | inr j ↦ inr (inr j) ]

has-insert : (q p : Seen) (ps : List Seen) → (p ≡ q) ⊎ Has q ps → Has q (insert p ps)
unfolding insert
has-insert q p [] h = h
has-insert q p (r ∷ ps) h = go (lt p.start r.start) (has-insert q p ps) h
  where
    go : (b : Bool) → ((p ≡ q) ⊎ Has q ps → Has q (insert p ps)) → (p ≡ q) ⊎ Has q (r ∷ ps) → Has q (if b then p ∷ r ∷ ps else r ∷ insert p ps)
    go true rest k = k
    go false rest (inl e) = inr (rest (inl e))
    go false rest (inr (inl e)) = inl e
    go false rest (inr (inr k)) = inr (rest (inr k))

module _ (f : TimeParts → Bool) (o : ObjectId) where
  pub listed-has : (m : List Mark) (q : Seen) → Has q (listed f o m) → Has (Put o q.start q.value) m × (f q.start ≡ true)
  unfolding listed
  listed-has [] q h = absurd h
  listed-has (Put a x v ∷ m) q h = go (same_object a o && f x) refl (listed-has m q) h
    where
      here : Seen
      here = record { place = version_count o m; start = x; value = v }

      deeper : Has (Put o q.start q.value) m × (f q.start ≡ true) → Has (Put o q.start q.value) (Put a x v ∷ m) × (f q.start ≡ true)
      deeper k = (inr k.0, k.1)

      go : (b : Bool) → (same_object a o && f x) ≡ b → (Has q (listed f o m) → Has (Put o q.start q.value) m × (f q.start ≡ true)) →
          Has q (if b then insert (record { place = version_count o m; start = x; value = v }) (listed f o m) else listed f o m) → Has (Put o q.start q.value) (Put a x v ∷ m) × (f q.start ≡ true)
      go false e rest k = deeper (rest k)
      go true e rest k = elim (insert-has q here (listed f o m) k) [
        | inl same ↦ (
          inl (ap (λ z. Put z x v) (same_object-is a o (and-left (same_object a o) (f x) e)) ∙ ap (λ (z : Seen). Put o z.start z.value) same),
          subst (λ (z : Seen). f z.start ≡ true) same (and-right (same_object a o) (f x) e),
        )
        | inr j ↦ deeper (rest j)
      ]
  listed-has (_ ∷ m) q h = let k = listed-has m q h in (inr k.0, k.1)

  abbrev Listed : List Mark → TimeParts → Value → Type 0
  Listed m x v = (q : Seen) × Has q (listed f o m) × (q.start ≡ x) × (q.value ≡ v)

  pub has-listed : (m : List Mark) (x : TimeParts) (v : Value) → Has (Put o x v) m → f x ≡ true → Listed m x v
  unfolding listed
  has-listed [] x v h p = absurd h
  has-listed (Put a y w ∷ m) x v (inl e) p =
      let at : a ≡ o = cc e in
      let start : y ≡ x = cc e in
      let value : w ≡ v = cc e in
      go (same_object a o && f y) refl (and-both (same_object a o) (f y) (same_object-of a o at) (ap f start ∙ p)) start value
    where
      go : (b : Bool) → (same_object a o && f y) ≡ b → (same_object a o && f y) ≡ true → y ≡ x → w ≡ v →
          (q : Seen) × Has q (if b then insert (record { place = version_count o m; start = y; value = w }) (listed f o m) else listed f o m) × (q.start ≡ x) × (q.value ≡ v)
      go true k t start value = (record { place = version_count o m; start = y; value = w }, has-insert (record { place = version_count o m; start = y; value = w }) (record { place = version_count o m; start = y; value = w }) (listed f o m) (inl refl), start, value)
      go false k t start value = absurd (false≢true (sym k ∙ t))
  has-listed (Put a y w ∷ m) x v (inr h) p = go (same_object a o && f y) (has-listed m x v h p)
    where
      go : (b : Bool) → Listed m x v → (q : Seen) × Has q (if b then insert (record { place = version_count o m; start = y; value = w }) (listed f o m) else listed f o m) × (q.start ≡ x) × (q.value ≡ v)
      go true k = (k.0, has-insert k.0 (record { place = version_count o m; start = y; value = w }) (listed f o m) (inr k.1), k.2, k.3)
      go false k = k
  has-listed (_ ∷ m) x v (inl e) p = absurd (cc e)
  has-listed (_ ∷ m) x v (inr h) p = has-listed m x v h p

-- ---- rising

abbrev pub Strict : List Seen → Type 0
Strict [] = Unit {0}
Strict (q ∷ qs) = Every (λ p. lt q.start p.start ≡ true) qs × Strict qs

every-insert : (P : Seen → Type 0) (q : Seen) (ps : List Seen) → P q → Every P ps → Every P (insert q ps)
unfolding insert
every-insert P q [] h k = (h, tt)
every-insert P q (p ∷ ps) h k = (elim (lt q.start p.start) as (λ b. Every P (insert q ps) → Every P (if b then q ∷ p ∷ ps else p ∷ insert q ps)) [ true ↦ λ rest. (h, k) | false ↦ λ rest. (k.0, rest) ]) (every-insert P q ps h k.1)

strict-insert : (q : Seen) (ps : List Seen) → Every (λ p. p.start ≢ q.start) ps → Strict ps → Strict (insert q ps)
unfolding insert
strict-insert q [] n h = (tt, tt)
strict-insert q (p ∷ ps) n h = go (lt q.start p.start) refl (strict-insert q ps n.1 h.1)
  where
    go : (b : Bool) → lt q.start p.start ≡ b → Strict (insert q ps) → Strict (if b then q ∷ p ∷ ps else p ∷ insert q ps)
    go true e rest = ((e, every-map (λ (r : Seen). lt p.start r.start ≡ true) (λ r. lt q.start r.start ≡ true) (λ r l. lt-trans q.start p.start r.start e l) ps h.0), h)
    go false e rest = (every-insert (λ r. lt p.start r.start ≡ true) q ps (not-true (lt p.start q.start) (λ l. n.0 (lt-total p.start q.start l e))) h.0, rest)

pub strict-listed : (f : TimeParts → Bool) (o : ObjectId) (m : List Mark) → Distinct m → Strict (listed f o m)
unfolding listed
strict-listed f o [] d = tt
strict-listed f o (Put a x v ∷ m) d = go (same_object a o && f x) refl (strict-listed f o m d.1)
  where
    go : (b : Bool) → (same_object a o && f x) ≡ b → Strict (listed f o m) → Strict (if b then insert (record { place = version_count o m; start = x; value = v }) (listed f o m) else listed f o m)
    go true e rest =
        strict-insert (record { place = version_count o m; start = x; value = v }) (listed f o m)
        (every-map (λ q. (q.start ≢ x) × (f q.start ≡ true)) (λ q. q.start ≢ x) (λ q h. h.0) (listed f o m)
        (listed-passes (λ y. y ≢ x) f o m (subst (λ z. Starts (λ y. y ≢ x) z m) (same_object-is a o (and-left (same_object a o) (f x) e)) d.0))) rest
    go false e rest = rest
strict-listed f o (_ ∷ m) d = strict-listed f o m d

pub strict-rises : (o : ObjectId) (qs : List Seen) → Strict qs → Rises (map (version_of o) qs)
strict-rises o [] h = tt
strict-rises o (q ∷ qs) h = (above qs h.0, strict-rises o qs h.1)
  where
    above : (ps : List Seen) → Every (λ p. lt q.start p.start ≡ true) ps → Every (λ (u : Version). lt q.start u.start ≡ true) (map (version_of o) ps)
    above [] k = tt
    above (p ∷ ps) k = (k.0, above ps k.1)

-- two rising lists with the same versions are the same
pub same-rising : (us vs : List Version) → Rises us → Rises vs → ((v : Version) → Has v us → Has v vs) → ((v : Version) → Has v vs → Has v us) → us ≡ vs
same-rising [] [] a b f g = refl
same-rising [] (v ∷ vs) a b f g = absurd (g v (inl refl))
same-rising (u ∷ us) [] a b f g = absurd (f u (inl refl))
same-rising (u ∷ us) (v ∷ vs) a b f g = λ i. same i ∷ same-rising us vs a.1 b.1 (λ w h. left w h (f w (inr h))) (λ w h. right w h (g w (inr h))) i
  where
    first : Has u (v ∷ vs) → Has v (u ∷ us) → u ≡ v
    first (inl e) k = sym e
    first (inr h) (inl e) = e
    first (inr h) (inr k) =
        absurd (true≢false (sym (every-has (λ (z : Version). lt v.start z.start ≡ true) vs u b.0 h) ∙ lt-asymmetric u.start v.start (every-has (λ (z : Version). lt u.start z.start ≡ true) us v a.0 k)))

    same : u ≡ v
    same = first (f u (inl refl)) (g v (inl refl))

    left : (w : Version) → Has w us → Has w (v ∷ vs) → Has w vs
    left w h (inr k) = k
    left w h (inl e) = absurd (true≢false (sym (every-has (λ (z : Version). lt u.start z.start ≡ true) us w a.0 h) ∙ subst (λ (z : Version). lt u.start z.start ≡ false) (same ∙ e) (lt-irreflexive u.start)))

    right : (w : Version) → Has w vs → Has w (u ∷ us) → Has w us
    right w h (inr k) = k
    right w h (inl e) = absurd (true≢false (sym (every-has (λ (z : Version). lt v.start z.start ≡ true) vs w b.0 h) ∙ subst (λ (z : Version). lt v.start z.start ≡ false) (sym same ∙ e) (lt-irreflexive v.start)))

-- ---- puts that pass

or-no : (a b : Bool) → a ≡ false → b ≡ false → (a || b) ≡ false
or-no true b h k = h
or-no false b h k = k

or-none : (a b : Bool) → (a || b) ≡ false → (a ≡ false) × (b ≡ false)
or-none true b h = absurd (true≢false h)
or-none false b h = (refl, h)

and-no : (a b : Bool) → (a ≡ true → b ≡ false) → (a && b) ≡ false
and-no true b h = h refl
and-no false b h = refl

and-none : (a b : Bool) → a ≡ true → (a && b) ≡ false → b ≡ false
and-none true b h k = k
and-none false b h k = absurd (false≢true h)

module _ (ok : TimeParts → Bool) (o : ObjectId) where
  pub none-passes : (m : List Mark) → ((x : TimeParts) (v : Value) → Has (Put o x v) m → ok x ≡ false) → some_put ok o m ≡ false
  unfolding some_put
  none-passes [] h = refl
  none-passes (Put a x v ∷ m) h =
      or-no (same_object a o && ok x) (some_put ok o m) (and-no (same_object a o) (ok x) (λ e. h x v (inl (ap (λ z. Put z x v) (same_object-is a o e))))) (none-passes m (λ y w k. h y w (inr k)))
  none-passes (_ ∷ m) h = none-passes m (λ y w k. h y w (inr k))

  pub passes-none : (m : List Mark) (x : TimeParts) (v : Value) → some_put ok o m ≡ false → Has (Put o x v) m → ok x ≡ false
  unfolding some_put
  passes-none [] x v h k = absurd k
  passes-none (Put a y w ∷ m) x v h (inl e) =
      let at : a ≡ o = cc e in
      let start : y ≡ x = cc e in
      subst (λ z. ok z ≡ false) start (and-none (same_object a o) (ok y) (same_object-of a o at) (or-none (same_object a o && ok y) (some_put ok o m) h).0)
  passes-none (Put a y w ∷ m) x v h (inr k) = passes-none m x v (or-none (same_object a o && ok y) (some_put ok o m) h).1 k
  passes-none (_ ∷ m) x v h (inl e) = absurd (cc e)
  passes-none (_ ∷ m) x v h (inr k) = passes-none m x v h k

-- ---- folds

module _ {T : Type 0} (first : T) (next : T → Version → Option T) (o : ObjectId) where
  abbrev over : Option (Moved T) → List Version → Result (Option (Moved T)) WatchFault
  over w vs = moved_over first next o w vs

  abbrev inner : Result (Option (Moved T)) WatchFault → Option (Moved T) → Option (Moved T)
  inner (Ok z) d = z
  inner (Err k) d = d

  abbrev is_fine : Result (Option (Moved T)) WatchFault → Bool
  is_fine (Ok z) = true
  is_fine (Err k) = false

  abbrev cursor_or : Option (Moved T) → TimeParts → TimeParts
  cursor_or None d = d
  cursor_or (Some w) d = w.cursor

  -- the cursor is that of the first total, or the start of a version that was folded
  abbrev CursorIn : Option (Moved T) → List Version → Moved T → Type 0
  CursorIn u vs w = (u ≡ Some w) ⊎ ((v : Version) × Has v vs × (v.start ≡ w.cursor))

  cursor-over : (u : Option (Moved T)) (vs : List Version) (w : Moved T) → over u vs ≡ Ok (Some w) → CursorIn u vs w
  unfolding moved_over
  cursor-over u [] w h = inl (ap (λ r. inner r u) h)
  cursor-over u (v ∷ vs) w h = go (next (total_of first u) v) (λ z. cursor-over z vs w) h
    where
      go : (t : Option T) → ((z : Option (Moved T)) → over z vs ≡ Ok (Some w) → CursorIn z vs w) → and_then (moved_to first next o v t) (λ z. over z vs) ≡ Ok (Some w) → CursorIn u (v ∷ vs) w
      go None rest k = absurd (false≢true (ap is_fine k))
      go (Some t) rest k = elim (rest (Some (record { object = o; cursor = v.start; total = t })) k) [ inl e ↦ inr (v, inl refl, ap (λ z. cursor_or z v.start) e) | inr j ↦ inr (j.0, inr j.1, j.2) ]

  pub cursor-in : (vs : List Version) (w : Moved T) → over None vs ≡ Ok (Some w) → (v : Version) × Has v vs × (v.start ≡ w.cursor)
  cursor-in vs w h = elim (cursor-over None vs w h) [ inl e ↦ absurd (cc e) | inr k ↦ k ]

  over-append : (w : Option (Moved T)) (vs us : List Version) → over w (vs ++ us) ≡ and_then (over w vs) (λ u. over u us)
  unfolding moved_over
  over-append w [] us = refl
  over-append w (v ∷ vs) us = joins (moved_to first next o v (next (total_of first w) v)) (λ u. over-append u vs us)
    where
      joins : (r : Result (Option (Moved T)) WatchFault) → ((u : Option (Moved T)) → over u (vs ++ us) ≡ and_then (over u vs) (λ z. over z us)) →
          and_then r (λ u. over u (vs ++ us)) ≡ and_then (and_then r (λ u. over u vs)) (λ z. over z us)
      joins (Ok u) e = e u
      joins (Err k) e = refl

  -- what goes on behind the versions so far is what is folded of all
  pub over-rest : (w u : Option (Moved T)) (vs us all : List Version) → all ≡ vs ++ us → over None vs ≡ Ok w → over w us ≡ Ok u → over None all ≡ Ok u
  over-rest w u vs us all is h k = ap (over None) is ∙ over-append None vs us ∙ ap (λ r. and_then r (λ z. over z us)) h ∙ k

-- ---- a rising list cut at a time

keep-all : (p : Seen → Bool) (qs : List Seen) → Every (λ q. p q ≡ true) qs → filter p qs ≡ qs
keep-all p [] h = refl
keep-all p (q ∷ qs) h = ap (λ b. if b then q ∷ filter p qs else filter p qs) h.0 ∙ ap (λ z. q ∷ z) (keep-all p qs h.1)

keep-none : (p : Seen → Bool) (qs : List Seen) → Every (λ q. p q ≡ false) qs → filter p qs ≡ []
keep-none p [] h = refl
keep-none p (q ∷ qs) h = ap (λ b. if b then q ∷ filter p qs else filter p qs) h.0 ∙ keep-none p qs h.1

pub cut : (c : TimeParts) (qs : List Seen) → Strict qs → filter (λ p. not (lt c p.start)) qs ++ filter (λ p. lt c p.start) qs ≡ qs
cut c [] s = refl
cut c (q ∷ qs) s = go (lt c q.start) refl (cut c qs s.1)
  where
    low : Seen → Bool
    low p = not (lt c p.start)

    high : Seen → Bool
    high p = lt c p.start

    go : (b : Bool) → lt c q.start ≡ b → filter (λ p. not (lt c p.start)) qs ++ filter (λ p. lt c p.start) qs ≡ qs →
        (if not b then q ∷ filter (λ p. not (lt c p.start)) qs else filter (λ p. not (lt c p.start)) qs) ++ (if b then q ∷ filter (λ p. lt c p.start) qs else filter (λ p. lt c p.start) qs) ≡ q ∷ qs
    go false e h = ap (λ z. q ∷ z) h
    go true e h =
        let over : Every (λ (p : Seen). lt c p.start ≡ true) qs = every-map (λ (p : Seen). lt q.start p.start ≡ true) (λ p. lt c p.start ≡ true) (λ p l. lt-trans c q.start p.start e l) qs s.0 in
        ap (λ z. z ++ (q ∷ filter (λ p. lt c p.start) qs)) (keep-none (λ p. not (lt c p.start)) qs (every-map (λ (p : Seen). lt c p.start ≡ true) (λ p. not (lt c p.start) ≡ false) (λ p l. ap not l) qs over))
        ∙ ap (λ z. q ∷ z) (keep-all (λ p. lt c p.start) qs over)
