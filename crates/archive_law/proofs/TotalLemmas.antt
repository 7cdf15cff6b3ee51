-- Each total that a watch left is of all committed versions that ever stood up to its cursor, whatever calls come after it.
use Rattle.archive_law.proofs.Names.{Has, repository, lt, TimeParts, lt-irreflexive, lt-split, ObjectId, Value, Mark, Seen, floor_of, is_committed, is_settled, settle_of, listed, and-both, and-left, and-right, known, WatchFault, Moved, Version, advanced, moved_over, version_of, Earlier, has-map, map-has, EverStood, IsArchive, IsPast, WasDecided, archive, log_after, volumes_left, Rises, ◌≡◌, ◌⊎◌, inl, inr, ℕ, Bool, true, false, List, [], ◌∷◌, map, filter, reverse, refl, sym, ◌∙◌, ap, subst, Option, Some, None, ◌&&◌, not, if◌then◌else◌, Result, Ok, Err, true≢false, false≢true, map-append, is_blocked, settled_versions, not-false, fresh, is_retired, unless_retired, cursor_of}
use Rattle.effect_form.specs.declared.effects.Effect.TheVariants as effect
use Rattle.object_history.proofs.AnswerLemmas.{committed}
use Rattle.commit_watch.specs.Totals.{IsTotal, folded_so_far}
use Rattle.commit_watch.proofs.StandingLemmas.{filter-listed}
use Rattle.commit_watch.proofs.TotalLemmas.{total-advanced}
use Rattle.archive_law.specs.Totals.{AreWatches, CountsAll, Event, IsCounted, archive_then, calls_of, totals_of}
use Rattle.archive_law.specs.Totals.Event.{Calling, Watching}
use Rattle.archive_law.proofs.ArchiveLemmas.{archive-is, known-decided, one-decision}
use Rattle.archive_law.proofs.GrowthLemmas.{decided-stays, earlier-past, known-stays, none-comes}
use Rattle.archive_law.proofs.ListedLemmas.{cursor-in, cut, has-listed, listed-has, none-passes, over-rest, passes-none, same-rising, strict-listed, strict-rises}

not-yes : (b : Bool) → not b ≡ true → b ≡ false
not-yes true h = absurd (false≢true h)
not-yes false h = refl

yes-not : (b : Bool) → b ≡ false → not b ≡ true
yes-not true h = absurd (true≢false h)
yes-not false h = refl

settled-some : (u : Option Bool) → is_settled u ≡ true → (d : Bool) × (u ≡ Some d)
settled-some None h = absurd (false≢true h)
settled-some (Some d) h = (d, refl)

-- what isn't above a start that nothing undecided is at or below is decided
settled-below : (b : Bool) (start cursor x : TimeParts) → start ≡ cursor → lt cursor x ≡ false → (not b && not (lt start x)) ≡ false → b ≡ true
settled-below true start cursor x e low h = refl
settled-below false start cursor x e low h = absurd (false≢true (sym h ∙ yes-not (lt start x) (ap (λ z. lt z x) e ∙ low)))

-- every version of the object that ever stood at or below the cursor was decided
abbrev pub Closed : List Earlier → ℕ → ObjectId → TimeParts → Type 0
Closed cs r o cursor = (x : TimeParts) (v : Value) → EverStood cs r (effect.Put o x v) → lt cursor x ≡ false → (d : Bool) × (known (reverse (log_after cs (repository r))) x.stamp ≡ Some d)

-- ---- what is folded is what is counted

module _ (cs : List Earlier) (past : IsPast cs) (r : ℕ) (o : ObjectId) where
  abbrev m : List Mark
  m = archive (volumes_left cs r)

  abbrev is : IsArchive cs r m
  is = archive-is cs past r

  abbrev settled : TimeParts → Bool
  settled x = is_committed (settle_of m x.stamp) && not (is_blocked m o x)

  module _ (cursor : TimeParts) where
    abbrev counted : TimeParts → Bool
    counted x = settled x && not (lt cursor x)

    abbrev versions : List Version
    versions = map (version_of o) (listed (λ x. (is_committed (settle_of m x.stamp) && not (is_blocked m o x)) && not (lt cursor x)) o m)

    pub folded-is : folded_so_far m o cursor ≡ versions
    folded-is = ap (map (version_of o)) (filter-listed (λ x. not (lt cursor x)) settled o m)

    pub versions-rise : Rises versions
    versions-rise = strict-rises o (listed counted o m) (strict-listed counted o m is.once)

    pub versions-only : (v : Version) → Has v versions → IsCounted cs r o cursor v
    versions-only v h =
        let k = map-has (version_of o) (listed counted o m) v h in
        let s = listed-has counted o m k.0 k.1 in
        subst (IsCounted cs r o cursor) k.2
        (record {
          its_object = refl;
          stood = is.none o k.0.start k.0.value s.0;
          committed = is.decided k.0.start.stamp true (committed (settle_of m k.0.start.stamp) (and-left _ (not (is_blocked m o k.0.start)) (and-left (settled k.0.start) _ s.1)));
          within = not-yes (lt cursor k.0.start) (and-right (settled k.0.start) _ s.1);
        })

    module _ (closed : Closed cs r o cursor) where
      -- nothing at or below the cursor is undecided
      free : (x : TimeParts) → lt cursor x ≡ false → is_blocked m o x ≡ false
      free x low = none-passes (λ y. not (is_settled (settle_of m y.stamp)) && not (lt x y)) o m (λ y v h. not-false _ (λ t.
          let within : lt cursor y ≡ false = not-false (lt cursor y) (λ l. true≢false (sym (lt-split cursor x y l (not-yes (lt x y) (and-right _ (not (lt x y)) t))) ∙ low)) in
          true≢false (sym (ap is_settled (is.known_so y.stamp ∙ (closed y v (is.none o y v h) within).1)) ∙ not-yes _ (and-left (not (is_settled (settle_of m y.stamp))) _ t))))

      pub versions-all : (v : Version) → IsCounted cs r o cursor v → Has v versions
      versions-all v c =
          let d = closed v.start v.value c.stood c.within in
          let how : settle_of m v.start.stamp ≡ Some d.0 = is.known_so v.start.stamp ∙ d.1 in
          let sure : d.0 ≡ true = one-decision cs past v.start.stamp d.0 true (is.decided v.start.stamp d.0 how) c.committed in
          let passes : counted v.start ≡ true = and-both (settled v.start) (not (lt cursor v.start))
          (and-both (is_committed (settle_of m v.start.stamp)) (not (is_blocked m o v.start)) (ap is_committed (how ∙ ap Some sure)) (yes-not _ (free v.start c.within))) (yes-not _ c.within) in
          let q = has-listed counted o m v.start v.value (is.all o v.start v.value c.stood) passes in
          let same : version_of o q.0 ≡ v = λ i. record { object = sym c.its_object i; start = q.2 i; value = q.3 i } in
          subst (λ z. Has z versions) same (has-map (version_of o) (listed counted o m) q.0 q.1)

-- ---- the totals

module _ {T : Type 0} (first : T) (next : T → Version → Option T) (r : ℕ) where
  pub record Held (cs : List Earlier) (o : ObjectId) (w : Moved T) : Type 0 where
    pub counts : CountsAll first next cs r o w
    pub closed : Closed cs r o w.cursor

  abbrev pub HeldOr : List Earlier → ObjectId → Option (Moved T) → Type 0
  HeldOr cs o None = Unit {0}
  HeldOr cs o (Some w) = Held cs o w

  module _ (cs : List Earlier) (past : IsPast cs) (o : ObjectId) where
    abbrev here : List Mark
    here = archive (volumes_left cs r)

    -- the version at the cursor isn't above an undecided one, so that none is undecided up to there
    total-closed : (w : Moved T) → IsTotal first next (archive (volumes_left cs r)) o (Some w) → Closed cs r o w.cursor
    total-closed w t x v stood low =
        let folded : moved_over first next o None (versions cs past r o w.cursor) ≡ Ok (Some w) = ap (moved_over first next o None) (sym (folded-is cs past r o w.cursor)) ∙ t in
        let c = cursor-in first next o (versions cs past r o w.cursor) w folded in
        let k = map-has (version_of o) (listed (counted cs past r o w.cursor) o here) c.0 c.1 in
        let s = listed-has (counted cs past r o w.cursor) o here k.0 k.1 in
        let unblocked : is_blocked here o k.0.start ≡ false = not-yes _ (and-right (is_committed (settle_of here k.0.start.stamp)) _ (and-left _ (not (lt w.cursor k.0.start)) s.1)) in
        let start : k.0.start ≡ w.cursor = ap (λ (z : Version). z.start) k.2 ∙ c.2 in
        let passes : (not (is_settled (settle_of here x.stamp)) && not (lt k.0.start x)) ≡ false =
        passes-none (λ y. not (is_settled (settle_of here y.stamp)) && not (lt k.0.start y)) o here x v unblocked ((archive-is cs past r).all o x v stood) in
        let d = settled-some (settle_of here x.stamp) (settled-below (is_settled (settle_of here x.stamp)) k.0.start w.cursor x start low passes) in
        (d.0, subst (λ u. u ≡ Some d.0) ((archive-is cs past r).known_so x.stamp) d.1)

    total-held : (w : Moved T) → IsTotal first next (archive (volumes_left cs r)) o (Some w) → Held cs o w
    total-held w t =
        let closed : Closed cs r o w.cursor = total-closed w t in
        record {
          counts = record {
            versions = versions cs past r o w.cursor;
            rising = versions-rise cs past r o w.cursor;
            all = versions-all cs past r o w.cursor closed;
            only = versions-only cs past r o w.cursor;
            folded = ap (moved_over first next o None) (sym (folded-is cs past r o w.cursor)) ∙ t;
          };
          closed = closed;
        }

    held-total : (w : Moved T) → Held cs o w → IsTotal first next (archive (volumes_left cs r)) o (Some w)
    held-total w h =
        let c : CountsAll first next cs r o w = h.counts in
        let same : versions cs past r o w.cursor ≡ c.versions =
        same-rising (versions cs past r o w.cursor) c.versions (versions-rise cs past r o w.cursor) c.rising
        (λ v k. c.all v (versions-only cs past r o w.cursor v k)) (λ v k. versions-all cs past r o w.cursor h.closed v (c.only v k)) in
        ap (moved_over first next o None) (folded-is cs past r o w.cursor ∙ same) ∙ c.folded

    pub total-of : (u : Option (Moved T)) → HeldOr cs o u → IsTotal first next (archive (volumes_left cs r)) o u
    total-of None h = tt
    total-of (Some w) h = held-total w h

    pub held-of : (u : Option (Moved T)) → IsTotal first next (archive (volumes_left cs r)) o u → HeldOr cs o u
    held-of None h = tt
    held-of (Some w) h = total-held w h

  -- ---- a call

  module _ (k : Earlier) (cs : List Earlier) (past : IsPast (k ∷ cs)) (o : ObjectId) where
    abbrev before : IsPast cs
    before = earlier-past k cs past

    held-on : (w : Moved T) → Held cs o w → Held (k ∷ cs) o w
    held-on w h =
        let c : CountsAll first next cs r o w = h.counts in
        let at = cursor-in first next o c.versions w c.folded in
        let last : IsCounted cs r o w.cursor at.0 = c.only at.0 at.1 in
        let stood : EverStood cs r (effect.Put o w.cursor at.0.value) = subst (λ z. EverStood cs r (effect.Put o z at.0.value)) at.2 last.stood in
        let decided : WasDecided cs w.cursor.stamp true = subst (λ (z : TimeParts). WasDecided cs z.stamp true) at.2 last.committed in
        let d = h.closed w.cursor at.0.value stood (lt-irreflexive w.cursor) in
        let sure : known (reverse (log_after cs (repository r))) w.cursor.stamp ≡ Some true =
        d.1 ∙ ap Some (one-decision cs before w.cursor.stamp d.0 true (known-decided cs before r w.cursor.stamp d.0 d.1) decided) in
        let old : (x : TimeParts) (v : Value) → lt w.cursor x ≡ false → EverStood (k ∷ cs) r (effect.Put o x v) → EverStood cs r (effect.Put o x v) =
        λ x v low s. none-comes k cs r past o x w.cursor v at.0.value stood sure low s in
        record {
          counts = record {
            versions = c.versions;
            rising = c.rising;
            all = λ v i. c.all v (earlier v i (old v.start v.value i.within i.stood));
            only = λ v i. (let z = c.only v i in record { its_object = z.its_object; stood = inr (inr z.stood); committed = decided-stays k cs past v.start.stamp true z.committed; within = z.within });
            folded = c.folded;
          };
          closed = λ x v s low. (let e = h.closed x v (old x v low s) low in (e.0, known-stays k cs r past x.stamp e.0 e.1));
        }
      where
        earlier : (v : Version) → IsCounted (k ∷ cs) r o w.cursor v → EverStood cs r (effect.Put o v.start v.value) → IsCounted cs r o w.cursor v
        earlier v i s =
            let d = h.closed v.start v.value s i.within in
            let was : WasDecided cs v.start.stamp d.0 = known-decided cs before r v.start.stamp d.0 d.1 in
            let sure : d.0 ≡ true = one-decision (k ∷ cs) past v.start.stamp d.0 true (decided-stays k cs past v.start.stamp d.0 was) i.committed in
            record { its_object = i.its_object; stood = s; committed = subst (WasDecided cs v.start.stamp) sure was; within = i.within }

    pub held-or-on : (u : Option (Moved T)) → HeldOr cs o u → HeldOr (k ∷ cs) o u
    held-or-on None h = tt
    held-or-on (Some w) h = held-on w h

  -- ---- all of them

  pub all-held : (es : List (Event T)) → IsPast (calls_of es) → AreWatches first next r es → (o : ObjectId) → HeldOr (calls_of es) o (totals_of es o)
  all-held [] past are o = tt
  all-held (Calling k ∷ es) past are o = held-or-on k (calls_of es) past o (totals_of es o) (all-held es (earlier-past k (calls_of es) past) are o)
  all-held (Watching new ∷ es) past are o = go (are.1 o) (all-held es past are.0 o)
    where
      go : (new o ≡ totals_of es o) ⊎ (advanced first next o (archive_then r es) None (totals_of es o) ≡ Ok (new o)) → HeldOr (calls_of es) o (totals_of es o) → HeldOr (calls_of es) o (new o)
      go (inl e) h = subst (HeldOr (calls_of es) o) (sym e) h
      go (inr e) h =
          held-of (calls_of es) past o (new o)
          (total-advanced first next o (archive_then r es) (totals_of es o) (new o) (total-of (calls_of es) past o (totals_of es o) h) e)

  pub some-counted : (es : List (Event T)) → IsPast (calls_of es) → AreWatches first next r es → (o : ObjectId) (w : Moved T) → totals_of es o ≡ Some w → CountsAll first next (calls_of es) r o w
  some-counted es past are o w e = (subst (HeldOr (calls_of es) o) e (all-held es past are o)).counts

  -- ---- a watch that wasn't stopped

  went : (m : List Mark) (o : ObjectId) (b : Bool) (e : Option TimeParts) (res : Result (Option (Moved T)) WatchFault) (u : Option (Moved T)) → unless_retired b o e res ≡ Ok u → res ≡ Ok u
  went m o false e res u h = h
  went m o true None res u h = h
  went m o true (Some x) res u h = absurd (false≢true (ap is_fine h))
    where
      is_fine : Result (Option (Moved T)) WatchFault → Bool
      is_fine (Ok z) = true
      is_fine (Err z) = false

  keep-plain : (p : TimeParts → Bool) (qs : List Seen) → filter (λ q. p q.start && true) qs ≡ filter (λ q. p q.start) qs
  keep-plain p [] = refl
  keep-plain p (q ∷ qs) = ap (λ b. if b then q ∷ filter (λ z. p z.start && true) qs else filter (λ z. p z.start && true) qs) (and-true (p q.start)) ∙ ap (λ z. if p q.start then q ∷ z else z) (keep-plain p qs)
    where
      and-true : (b : Bool) → (b && true) ≡ b
      and-true true = refl
      and-true false = refl

  keep-every : (qs : List Seen) → filter (λ q. true && true) qs ≡ qs
  keep-every [] = refl
  keep-every (q ∷ qs) = ap (λ z. q ∷ z) (keep-every qs)

  whole-fold : (cs : List Earlier) (past : IsPast cs) (o : ObjectId) (w u : Option (Moved T)) → IsTotal first next (archive (volumes_left cs r)) o w → moved_over first next o w (fresh (archive (volumes_left cs r)) o (cursor_of w) None) ≡ Ok u →
      moved_over first next o None (map (version_of o) (settled_versions (archive (volumes_left cs r)) o)) ≡ Ok u
  whole-fold cs past o None u t h = ap (λ qs. moved_over first next o None (map (version_of o) qs)) (sym (keep-every (settled_versions (archive (volumes_left cs r)) o))) ∙ h
  whole-fold cs past o (Some w) u t h =
      let now : List Mark = archive (volumes_left cs r) in
      let qs : List Seen = settled_versions now o in
      let low : List Seen = filter (λ q. not (lt w.cursor q.start)) qs in
      let high : List Seen = filter (λ q. lt w.cursor q.start) qs in
      over-rest first next o (Some w) u (map (version_of o) low) (map (version_of o) high) (map (version_of o) qs)
      (ap (map (version_of o)) (sym (cut w.cursor qs (strict-listed (λ x. is_committed (settle_of now x.stamp) && not (is_blocked now o x)) o now (archive-is cs past r).once))) ∙ map-append (version_of o) low high)
      t (ap (λ z. moved_over first next o (Some w) (map (version_of o) z)) (sym (keep-plain (λ x. lt w.cursor x) qs)) ∙ h)

  pub whole-counted : (es : List (Event T)) → IsPast (calls_of es) → AreWatches first next r es → (o : ObjectId) (u : Option (Moved T)) → advanced first next o (archive_then r es) None (totals_of es o) ≡ Ok u →
      moved_over first next o None (map (version_of o) (settled_versions (archive_then r es) o)) ≡ Ok u
  whole-counted es past are o u h =
      whole-fold (calls_of es) past o (totals_of es o) u (total-of (calls_of es) past o (totals_of es o) (all-held es past are o))
      (went (archive_then r es) o (is_retired (archive_then r es) o (cursor_of (totals_of es o))) (floor_of (archive_then r es)) (moved_over first next o (totals_of es o) (fresh (archive_then r es) o (cursor_of (totals_of es o)) None)) u h)
