-- Runs of windows, one after another, and the window of a place.
use Rattle.node_turn.proofs.Names.{NodeId, Image, Stage, LeftNow, Goes, Entry, Base, Life, names, own, walk, IsKept, IsNext, Mark, KeptAlong, Passes, ◌≡◌, ◌⊎◌, inl, inr, ⊎_elim, suc, List, [], ◌∷◌, ◌++◌, length, refl, sym, ap, subst, ◌∙◌, append_assoc, cond, append-nil, filter-append, goes_on, goes_to, same-life, entries_in, cuts_of, cut_at}

own-append : (n : NodeId) (xs ys : List Entry) → own n (xs ++ ys) ≡ own n xs ++ own n ys
own-append n xs ys = filter-append (names n) xs ys

nothing-left : {X : Type 0} (xs ys : List X) → xs ++ ys ≡ [] → xs ≡ []
nothing-left [] ys h = refl
nothing-left (x ∷ xs) ys h = absurd (cc h)

entries-append : (ms ks : List Mark) → entries_in (ms ++ ks) ≡ entries_in ms ++ entries_in ks
entries-append [] ks = refl
entries-append (m ∷ ms) ks = ap (λ l. m.entries ++ l) (entries-append ms ks) ∙ sym (append_assoc m.entries (entries_in ms) (entries_in ks))

module _ (b : Base) (n : NodeId) where
  -- entries of others change nothing
  same-there : (es more : List Entry) → own n more ≡ [] → (walk b (es ++ more)).life n ≡ (walk b es).life n
  same-there es more none = same-life b es more n (own-append n es more ∙ ap (λ l. own n es ++ l) none ∙ append-nil (own n es))

  goes-there : (es more : List Entry) (from to : List Stage) → own n more ≡ [] → Goes from to (IsKept ((walk b es).life n)) → Goes from to (IsKept ((walk b (es ++ more)).life n))
  goes-there es more from to none g = subst (λ (l : Life). Goes from to (IsKept l)) (sym (same-there es more none)) g

  goes-here : (es more : List Entry) (from to : List Stage) → own n more ≡ [] → Goes from to (IsKept ((walk b (es ++ more)).life n)) → Goes from to (IsKept ((walk b es).life n))
  goes-here es more from to none g = subst (λ (l : Life). Goes from to (IsKept l)) (same-there es more none) g

  -- one window and the next part of it
  one : (es : List Entry) (from between to : List Stage) → Goes from between (IsKept ((walk b es).life n)) → Goes between to (IsKept ((walk b es).life n)) → Goes from to (IsKept ((walk b es).life n))
  one es from between to g h = goes_on from between to (IsKept ((walk b es).life n)) (IsKept ((walk b es).life n)) (IsKept ((walk b es).life n)) g h (λ c k. k) (λ c k. k)

  -- others' entries before a mark are others' entries of the mark
  next-behind : (rest es : List Entry) → own n rest ≡ [] → IsNext n es → IsNext n (rest ++ es)
  next-behind rest es none next = record {
    others = rest ++ next.others;
    entry = next.entry;
    is = ap (λ l. rest ++ l) next.is ∙ sym (append_assoc rest next.others (next.entry ∷ []));
    none = own-append n rest next.others ∙ ap (λ l. l ++ own n next.others) none ∙ next.none;
    named = next.named;
  }

  module _ (between : List Stage) (rest : List Entry) (none : own n rest ≡ []) where
    -- the marks of two runs, where these entries of others stand between them
    abbrev marks-then : List Mark → List Mark → List Mark
    marks-then ms [] = ms
    marks-then ms (k ∷ ks) = ms ++ record { entries = rest ++ k.entries; stages = k.stages } ∷ ks

    along-then : (es : List Entry) (from to : List Stage) (ms ks : List Mark) → KeptAlong b n es from ms between → KeptAlong b n (es ++ (entries_in ms ++ rest)) between ks to → KeptAlong b n es from (marks-then ms ks) to
    along-then es from to [] [] g h = one es from between to g (goes-here es rest between to none h)
    along-then es from to [] (k ∷ ks) g h = (
      one es from between k.stages g (goes-here es rest between k.stages none h.0),
      next-behind rest k.entries none h.1,
      subst (λ l. KeptAlong b n l k.stages ks to) (append_assoc es rest k.entries) h.2,
    )
    along-then es from to (m ∷ ms) [] g h = (g.0, g.1, along-then (es ++ m.entries) m.stages to ms [] g.2 (subst (λ l. KeptAlong b n l between [] to) (deeper es m ms) h))
      where
        deeper : (es : List Entry) (m : Mark) (ms : List Mark) → es ++ ((m.entries ++ entries_in ms) ++ rest) ≡ (es ++ m.entries) ++ (entries_in ms ++ rest)
        deeper es m ms = ap (λ l. es ++ l) (append_assoc m.entries (entries_in ms) rest) ∙ sym (append_assoc es m.entries (entries_in ms ++ rest))
    along-then es from to (m ∷ ms) (k ∷ ks) g h = (g.0, g.1, along-then (es ++ m.entries) m.stages to ms (k ∷ ks) g.2 (subst (λ l. KeptAlong b n l between (k ∷ ks) to) (deeper es m ms) h))
      where
        deeper : (es : List Entry) (m : Mark) (ms : List Mark) → es ++ ((m.entries ++ entries_in ms) ++ rest) ≡ (es ++ m.entries) ++ (entries_in ms ++ rest)
        deeper es m ms = ap (λ l. es ++ l) (append_assoc m.entries (entries_in ms) rest) ∙ sym (append_assoc es m.entries (entries_in ms ++ rest))

    -- which of the others' entries are left behind the last mark
    abbrev rest-then : List Mark → List Entry → List Entry
    rest-then [] late = rest ++ late
    rest-then (k ∷ ks) late = late

    none-then : (ks : List Mark) (late : List Entry) → own n late ≡ [] → own n (rest-then ks late) ≡ []
    none-then [] late h = own-append n rest late ∙ ap (λ l. l ++ own n late) none ∙ h
    none-then (k ∷ ks) late h = h

    story-then : (ms ks : List Mark) (late : List Entry) → (entries_in ms ++ rest) ++ (entries_in ks ++ late) ≡ entries_in (marks-then ms ks) ++ rest-then ks late
    story-then ms [] late = append_assoc (entries_in ms) rest late
    story-then ms (k ∷ ks) late =
        append_assoc (entries_in ms) rest ((k.entries ++ entries_in ks) ++ late)
        ∙ ap (λ l. entries_in ms ++ l) (sym (append_assoc rest (k.entries ++ entries_in ks) late) ∙ ap (λ l. l ++ late) (sym (append_assoc rest k.entries (entries_in ks))))
        ∙ sym (append_assoc (entries_in ms) ((rest ++ k.entries) ++ entries_in ks) late)
        ∙ ap (λ l. l ++ late) (sym (entries-append ms (record { entries = rest ++ k.entries; stages = k.stages } ∷ ks)))

  pub passes-then : (x y z : List Entry) (from between to : List Stage) → Passes b n x y from between → Passes b n y z between to → Passes b n x z from to
  passes-then x y z from between to p q = record {
    marks = marks-then between p.rest p.none p.marks q.marks;
    rest = rest-then between p.rest p.none q.marks q.rest;
    none = none-then between p.rest p.none q.marks q.rest q.none;
    story = q.story ∙ ap (λ l. l ++ (entries_in q.marks ++ q.rest)) p.story ∙ append_assoc x (entries_in p.marks ++ p.rest) (entries_in q.marks ++ q.rest) ∙ ap (λ l. x ++ l) (story-then between p.rest p.none p.marks q.marks q.rest);
    kept = along-then between p.rest p.none x from to p.marks q.marks p.kept (subst (λ l. KeptAlong b n l between q.marks to) p.story q.kept);
  }

  -- ---- the last window

  along-last : (es : List Entry) (from to : List Stage) (ms : List Mark) → KeptAlong b n es from ms to → (c : Image) → LeftNow to c → IsKept ((walk b (es ++ entries_in ms)).life n) c
  along-last es from to [] g c now = subst (λ l. IsKept ((walk b l).life n) c) (sym (append-nil es)) (goes_to from to (IsKept ((walk b es).life n)) g c now)
  along-last es from to (m ∷ ms) g c now = subst (λ l. IsKept ((walk b l).life n) c) (append_assoc es m.entries (entries_in ms)) (along-last (es ++ m.entries) m.stages to ms g.2 c now)

  -- a crash then leaves the log of the life that the node has there
  pub passes-last : (x y : List Entry) (from to : List Stage) → Passes b n x y from to → (c : Image) → LeftNow to c → IsKept ((walk b y).life n) c
  passes-last x y from to p c now =
      let before : List Entry = x ++ entries_in p.marks in
      let all : y ≡ before ++ p.rest = p.story ∙ sym (append_assoc x (entries_in p.marks) p.rest) in
      subst (λ l. IsKept ((walk b l).life n) c) (sym all) (subst (λ (l : Life). IsKept l c) (sym (same-there before p.rest p.none)) (along-last x from to p.marks p.kept c now))

  -- ---- the window of a place

  -- a list's front ends within another front, or goes on behind it
  fronts : (xs ys front back : List Entry) → xs ++ ys ≡ front ++ back → ((e : Entry) × (more : List Entry) × (xs ≡ front ++ e ∷ more)) ⊎ ((late : List Entry) × (front ≡ xs ++ late) × (ys ≡ late ++ back))
  fronts [] ys front back h = inr (front, refl, h)
  fronts (x ∷ xs) ys [] back h = inl (x, xs, refl)
  fronts (x ∷ xs) ys (f ∷ front) back h =
      let same : x ≡ f = cc h in
      ⊎_elim
      (λ short. inl (short.0, short.1, ap (λ y. y ∷ xs) same ∙ ap (λ l. f ∷ l) short.2))
      (λ long. inr (long.0, ap (λ l. f ∷ l) long.1 ∙ ap (λ y. y ∷ (xs ++ long.0)) (sym same), long.2))
      (fronts xs ys front back (cc h))

  -- a prefix of entries that ends before the last one
  before-last : (others front more : List Entry) (entry e : Entry) → others ++ entry ∷ [] ≡ front ++ e ∷ more → (late : List Entry) × (others ≡ front ++ late)
  before-last others [] more entry e h = (others, refl)
  before-last [] (f ∷ front) more entry e h = absurd (too-long front (cc h))
    where
      too-long : (front : List Entry) → [] ≡ front ++ e ∷ more → ⊥
      too-long [] g = absurd (cc g)
      too-long (y ∷ ys) g = absurd (cc g)
  before-last (o ∷ others) (f ∷ front) more entry e h =
      let same : o ≡ f = cc h in
      let late = before-last others front more entry e (cc h) in
      (late.0, ap (λ y. y ∷ others) same ∙ ap (λ l. f ∷ l) late.1)

  own-one : (es : List Entry) → IsNext n es → (e : Entry) × (own n es ≡ e ∷ [])
  own-one es next = (
    next.entry,
    ap (own n) next.is ∙ own-append n next.others (next.entry ∷ []) ∙ ap (λ l. l ++ own n (next.entry ∷ [])) next.none ∙ ap (λ t. cond t (next.entry ∷ []) []) next.named,
  )

  place : (es : List Entry) (from to : List Stage) (ms : List Mark) (rest front back : List Entry) → KeptAlong b n es from ms to → own n rest ≡ [] → entries_in ms ++ rest ≡ front ++ back
      → Goes (cut_at from (cuts_of ms) to (length (own n front))) (cut_at from (cuts_of ms) to (suc (length (own n front)))) (IsKept ((walk b (es ++ front)).life n))
  place es from to [] rest front back kept none is =
      let here : own n front ≡ [] = nothing-left (own n front) (own n back) (sym (own-append n front back) ∙ ap (own n) (sym is) ∙ none) in
      subst (λ (l : List Entry). Goes (cut_at from [] to (length l)) (cut_at from [] to (suc (length l))) (IsKept ((walk b (es ++ front)).life n))) (sym here) (goes-there es front from to here kept)
  place es from to (m ∷ ms) rest front back kept none is = ⊎_elim
      (λ short.
      let late = before-last kept.1.others front short.1 kept.1.entry short.0 (sym kept.1.is ∙ short.2) in
      let here : own n front ≡ [] = nothing-left (own n front) (own n late.0) (sym (own-append n front late.0) ∙ ap (own n) (sym late.1) ∙ kept.1.none) in
      subst (λ (l : List Entry). Goes (cut_at from (m.stages ∷ cuts_of ms) to (length l)) (cut_at from (m.stages ∷ cuts_of ms) to (suc (length l))) (IsKept ((walk b (es ++ front)).life n))) (sym here) (goes-there es front from m.stages here kept.0))
      (λ long.
      let e = own-one m.entries kept.1 in
      let more : own n front ≡ e.0 ∷ own n long.0 = ap (own n) long.1 ∙ own-append n m.entries long.0 ∙ ap (λ l. l ++ own n long.0) e.1 in
      let deep = place (es ++ m.entries) m.stages to ms rest long.0 back kept.2 none long.2 in
      let there : (es ++ m.entries) ++ long.0 ≡ es ++ front = append_assoc es m.entries long.0 ∙ ap (λ l. es ++ l) (sym long.1) in
      subst (λ (l : List Entry). Goes (cut_at from (m.stages ∷ cuts_of ms) to (length l)) (cut_at from (m.stages ∷ cuts_of ms) to (suc (length l))) (IsKept ((walk b (es ++ front)).life n))) (sym more)
      (subst (λ (l : List Entry). Goes (cut_at m.stages (cuts_of ms) to (length (own n long.0))) (cut_at m.stages (cuts_of ms) to (suc (length (own n long.0)))) (IsKept ((walk b l).life n))) there deep))
      (fronts m.entries (entries_in ms ++ rest) front back (sym (append_assoc m.entries (entries_in ms) rest) ∙ is))

  pub place-of : (story front back : List Entry) (from to : List Stage) → (p : Passes b n [] story from to) → story ≡ front ++ back
      → Goes (cut_at from (cuts_of p.marks) to (length (own n front))) (cut_at from (cuts_of p.marks) to (suc (length (own n front)))) (IsKept ((walk b front).life n))
  place-of story front back from to p is = place [] from to p.marks p.rest front back p.kept p.none (sym p.story ∙ is)
