-- A run whose stops have their causes doesn't stop: the first Tick would stand at an idle place, where all are done, and the first full medium would have room.
use Rattle.complete_law.proofs.Names.{Every, every-append, NodeId, Fate, Entry, Base, World, start_world, step, walk_from, Meets, Rule, base_of, fates_of, CalmRun, CalmPlace, IsUnstopped, IsIdleAt, AllDone, AskAtMost, filled_by, log_at, most_pages, ◌≡◌, ℕ, ◌≤◌, ◌<◌, List, [], ◌∷◌, ◌++◌, refl, sym, ◌∙◌, subst, append_assoc, arith, MayStop}
use Rattle.world_core.specs.declared.entries.Entry.TheVariants.{Crash, Down, Tick}
use Rattle.pseudo_time.specs.declared.down_causes.DownCause.TheVariants.{Medium, Damaged, Full}

-- the entry after a front meets its rule
meets-there : (b : Base) (fates : List Fate) (w : World) (front : List Entry) (e : Entry) (rest : List Entry) → Meets b fates w (front ++ e ∷ rest) → Rule b fates (walk_from b w front) e
unfolding Meets walk_from
meets-there b fates w [] e rest m = m.0
meets-there b fates w (f ∷ front) e rest m = meets-there b fates (step b w f) front e rest m.1

too-much : (n most pages : ℕ) → n ≤ pages → pages ≤ most → most < n → ⊥
too-much n most pages h k l = omega (arith, h, k, l)

module _ (stuck : (p : CalmPlace) → IsIdleAt p → AllDone p) (few : (p : CalmPlace) (most : ℕ) (n : NodeId) → AskAtMost p.run most → filled_by (log_at p n) ≤ most_pages p.run most)
    (r : CalmRun) (most : ℕ) (asks : AskAtMost r most) (may : (p : CalmPlace) (e : Entry) (more : List Entry) → p.run ≡ r → p.rest ≡ e ∷ more → MayStop (most_pages r most) p e) where
  abbrev place : (front rest : List Entry) → r.trace.entries ≡ front ++ rest → Every IsUnstopped front → CalmPlace
  place front rest here quiet = record { run = r; front = front; rest = rest; here = here; quiet = quiet }

  pub all-quiet : (front rest : List Entry) → r.trace.entries ≡ front ++ rest → Every IsUnstopped front → Every IsUnstopped rest
  all-quiet front [] here quiet = tt
  all-quiet front (e ∷ rest) here quiet =
      let q : IsUnstopped e = go e here (may (place front (e ∷ rest) here quiet) e rest refl refl) in
      (q, all-quiet (front ++ e ∷ []) rest (here ∙ sym (append_assoc front (e ∷ []) rest)) (every-append IsUnstopped front (e ∷ []) quiet (q, tt)))
    where
      go : (e : Entry) (h : r.trace.entries ≡ front ++ e ∷ rest) → MayStop (most_pages r most) (place front (e ∷ rest) h quiet) e → IsUnstopped e
      go (Crash n k) h m = m
      go (Down n (Full pages)) h m = too-much (filled_by (log_at (place front (Down n (Full pages) ∷ rest) h quiet) n)) pages (most_pages r most) (few (place front (Down n (Full pages) ∷ rest) h quiet) most n asks) m.0 m.1
      go (Down n Medium) h m = m
      go (Down n (Damaged page)) h m = m
      go (Tick moment) h m =
          m (stuck (place front (Tick moment ∷ rest) h quiet)
          (meets-there (base_of r.script r.plan r.trace) (fates_of r.trace.sent) (start_world (base_of r.script r.plan r.trace)) front (Tick moment) rest
          (subst (Meets (base_of r.script r.plan r.trace) (fates_of r.trace.sent) (start_world (base_of r.script r.plan r.trace))) h r.legal.meets)).idle)
      go e h m = tt

  pub nothing-stops : Every IsUnstopped r.trace.entries
  nothing-stops = all-quiet [] r.trace.entries refl tt
