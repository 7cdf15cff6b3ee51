-- The facts of a run without acts over what a past left; and so its archive tells the map.
use Rattle.std.proofs.Common.{⊎_elim}
use Rattle.pseudo_time.proofs.OrderLemmas.{same_stamp-is}
use Rattle.archive_law.specs.AsOf.{HomeKnows, beside_homes}
use Rattle.archive_law.proofs.Names.{Every, every-has, has-right, same_stamp, or_else, TimeParts, ObjectId, Value, Mark, Option, Some, None, Has, repository, StampParts, Decision, NodeId, Effect, Post, settle_of, Distinct, is_commit, marks, RestsOn, decide-home, decided-once, put-logged, Tree, RunLogs, before, in_run, log_of, own_reading, Base, Earlier, TickedBy, replaced, node_facts, OlderFacts, each-has, map-has, RunFacts, whole_log, put-asked, IsPast, archive, log_after, volumes_left, TellsMap, ◌≡◌, ◌⊎◌, ◌≤◌, inl, inr, ℕ, Bool, true, false, List, [], ◌∷◌, ◌++◌, map, filter, reverse, if◌then◌else◌, refl, sym, ◌∙◌, ap, subst, nat_le, ◌&&◌, false≢true, le-leb, learn-home, Said, whole_run, idle_run}
use Rattle.pseudo_time.specs.declared.decisions.Decision.TheVariants as decision
use Rattle.effect_form.specs.declared.effects.Effect.TheVariants as effect
use Rattle.message_form.specs.declared.messages.Message.{Message}
use Rattle.message_form.specs.declared.messages.Message.TheVariants as message
use Rattle.object_history.specs.declared.marks.Mark.TheVariants as mark
use Rattle.serial_law.proofs.RunFacts.{said-of}
use Rattle.serial_law.proofs.WholeLemmas.{marks-whole, other-whole, put-once, settle-whole, whole-has}
use Rattle.archive_law.proofs.MapLemmas.{Archives, tells-map}
use Rattle.archive_law.proofs.PastReadings.{Facts, facts-of, no_base}
use Rattle.archive_law.proofs.VolumeLemmas.{all-here, archive-from, archive-has, archive-settles, put-home, put-step, unturned}
use Rattle.archive_law.proofs.VolumeLemmas as volumes

-- ---- the writes and commits among messages

abbrev is_request : Message → Bool
is_request (message.Write x o v) = true
is_request (message.Commit s) = true
is_request _ = false

abbrev requests : List Post → List Post
requests ever = filter (λ (p : Post). is_request p.message) ever

said-request : (ever : List Post) (m : Message) → Said (requests ever) m → is_request m ≡ true
said-request [] m h = absurd h
said-request (p ∷ ever) m h = go (is_request p.message) refl (λ k. said-request ever m k) h
  where
    go : (b : Bool) → is_request p.message ≡ b → (Said (requests ever) m → is_request m ≡ true) → Said (if b then p ∷ requests ever else requests ever) m → is_request m ≡ true
    go true e rest (inl same) = ap is_request (sym same) ∙ e
    go true e rest (inr k) = rest k
    go false e rest k = rest k

request-said : (ever : List Post) (m : Message) → is_request m ≡ true → Said ever m → Said (requests ever) m
request-said [] m r h = h
request-said (p ∷ ever) m r h = go (is_request p.message) refl (λ k. request-said ever m r k) h
  where
    go : (b : Bool) → is_request p.message ≡ b → (Said ever m → Said (requests ever) m) → (p.message ≡ m) ⊎ Said ever m → Said (if b then p ∷ requests ever else requests ever) m
    go true e rest (inl same) = inl same
    go true e rest (inr k) = inr (rest k)
    go false e rest (inl same) = absurd (false≢true (sym e ∙ ap is_request same ∙ r))
    go false e rest (inr k) = rest k

-- ---- the logs, with all versions that ever stood

module _ (script : List ℕ → Tree) (b : Base) (logs : NodeId → List Effect) (olds : NodeId → List (List Effect)) (past sent : List Post) (May : ℕ → Type 0)
    (f : OlderFacts (node_facts script) b logs olds past sent May) where
  abbrev ever : List Post
  ever = past ++ sent

  abbrev now : ℕ → List Effect
  now r = reverse (logs (repository r))

  abbrev gone : NodeId → List (List Effect)
  gone n = map reverse (olds n)

  abbrev run : ℕ → RunLogs
  run n = record { repositories = n; logs = λ m. reverse (logs m); tries = [] }

  decide-there : (r : ℕ) (s : StampParts) (d : Decision) → Has (effect.Decide s d) (whole_log (gone (repository r)) (now r)) → Has (effect.Decide s d) (now r)
  decide-there r s d h = other-whole (gone (repository r)) (now r) (effect.Decide s d) (λ z. z) h

  learn-there : (r : ℕ) (s : StampParts) (c : Bool) → Has (effect.Learn s c) (whole_log (gone (repository r)) (now r)) → Has (effect.Learn s c) (now r)
  learn-there r s c h = other-whole (gone (repository r)) (now r) (effect.Learn s c) (λ z. z) h

  caused : (r : ℕ) (e : Effect) → Has e (now r) → RestsOn ever now f.ticks r e
  caused r e h = (each-has _ (now r) e (f.proofs (repository r)) h).1

  -- ---- the facts

  pub idle-facts : (n : ℕ) → RunFacts (whole_run (λ m. map reverse (olds m)) (record { repositories = n; logs = λ m. reverse (logs m); tries = [] })) (requests ever)
  idle-facts n = record {
    decided_once = λ s d e h k. ap is_commit (decided-once s.home (now s.home) s d e (f.tidy (repository s.home)) (decide-there s.home s d h) (decide-there s.home s e k));
    decided_home = λ r s d i h. sym (decide-home r (now r) s d (f.tidy (repository r)) (decide-there r s d h));
    learned = λ r s c i h. (let k = caused r (effect.Learn s c) (learn-there r s c h) in (k.0, whole-has (gone (repository s.home)) (now s.home) (effect.Decide s k.0) k.1, k.2));
    learned_away = λ r s c i h e. learn-home r (now r) s c (f.tidy (repository r)) (learn-there r s c h) e;
    value = λ t v h. absurd (false≢true (said-request ever (message.Value t v) h));
    stored = λ t h. absurd (false≢true (said-request ever (message.Stored t) h));
    decided = λ s d h. absurd (false≢true (said-request ever (message.Decided s d) h));
    got = λ a pre post v has. absurd has;
    acked = λ a pre post has. absurd has;
    end_committed = λ a has. absurd has;
    end_expired = λ a d m has. absurd has;
    end_withdrawn = λ a l has. absurd has;
    end_failed = λ a l kind has. absurd has;
    read_asked = λ a t o has. absurd has;
    write_asked = λ a t o v has. absurd has;
    commit_asked = λ a has. absurd has;
    distinct = λ r i. subst Distinct (sym (marks-whole (gone (repository r)) (now r))) (all-here script b logs olds past sent May f r (record { repository = r; number = 0 })).distinct;
    put = λ r o x v i h. (let k = put-once (gone (repository r)) (now r) (effect.Put o x v) h in
        let asked = put-asked script b logs olds past sent May f r k.0 o x v k.1 k.2 in
        (asked.1, request-said ever (message.Write x o v) refl (said-of ever _ asked.0)));
    commit = λ s h. request-said ever (message.Commit s) refl (said-of ever _ (caused s.home (effect.Decide s decision.Committed) (decide-there s.home s decision.Committed h)));
    home = λ a has. absurd has;
    within = λ a pre post q has. absurd has;
  }

  -- ---- the archive

  pub archives : (k : RunLogs) (r : ℕ) → in_run k r ≡ true → log_of k r ≡ whole_log (map reverse (olds (repository r))) (reverse (logs (repository r))) →
      Archives k r (archive (volumes.volumes script b logs olds past sent May f r))
  archives k r inside same = record {
    inside = inside;
    has = λ o x v h. (let p = put-once (gone (repository r)) (now r) (effect.Put o x v) (put-logged (whole_log (gone (repository r)) (now r)) o x v (subst (λ l. Has (mark.Put o x v) (marks l)) same h)) in
        let l = map-has reverse (logs (repository r) ∷ olds (repository r)) p.0 p.1 in
        archive-has script b logs olds past sent May f r o x v l.0 l.1 (unturned l.0 (effect.Put o x v) (subst (Has (effect.Put o x v)) (sym l.2) p.2)));
    from = λ o x v h. (let k = archive-from script b logs olds past sent May f r o x v h in
        subst (λ l. Has (mark.Put o x v) (marks l)) (sym same)
        (subst (Has (mark.Put o x v)) (sym (marks-whole (gone (repository r)) (now r))) (volumes.stands-all script b logs olds past sent May f r k.0 o x v k.1 k.2)));
    home = λ o x v h. (let k = archive-from script b logs olds past sent May f r o x v h in put-home script b logs olds past sent May f r k.0 o x v k.1 k.2);
    step = λ o x v h. (let k = archive-from script b logs olds past sent May f r o x v h in put-step script b logs olds past sent May f r k.0 o x v k.1 k.2);
    sure = λ s c e. (r, inside, (ap (λ l. settle_of (marks l) s) same ∙ settle-whole (gone (repository r)) (now r) s) ∙ (sym (archive-settles script b logs olds past sent May f r s) ∙ e));
  }

-- ---- with decisions of homes

abbrev Decisions : Type 0
Decisions = List (StampParts × Bool)

-- a decision that an archive has with these is one of them, or its own
first-settled : (p s : StampParts) (x c : Bool) (P : Type 0) → (p ≡ s → x ≡ c → P) → (u : Option Bool) → (u ≡ Some c → P) → (b : Bool) → same_stamp p s ≡ b → (if b then or_else u x else u) ≡ Some c → P
first-settled p s x c P here None below true q e = here (same_stamp-is p s q) (let z : ◌≡◌ {A = Option Bool} (Some x) (Some c) = e in cc z)
first-settled p s x c P here (Some y) below true q e = below e
first-settled p s x c P here u below false q e = below e

settled-beside : (ds : Decisions) (m : List Mark) (s : StampParts) (c : Bool) → settle_of (beside_homes ds m) s ≡ Some c → Has (s, c) ds ⊎ (settle_of m s ≡ Some c)
unfolding settle_of
settled-beside [] m s c e = inr e
settled-beside (d ∷ ds) m s c e = first-settled d.0 s d.1 c (Has (s, c) (d ∷ ds) ⊎ (settle_of m s ≡ Some c))
    (λ p q. inl (inl (ap (λ (z : StampParts). (z, d.1)) p ∙ ap (λ (z : Bool). (s, z)) q)))
    (settle_of (beside_homes ds m) s)
    (λ h. ⊎_elim (λ k. inl (inr k)) (λ k. inr k) (settled-beside ds m s c h)) (same_stamp d.0 s) refl e

put-beside : (ds : Decisions) (m : List Mark) (o : ObjectId) (x : TimeParts) (v : Value) → Has (mark.Put o x v) (beside_homes ds m) → Has (mark.Put o x v) m
put-beside [] m o x v h = h
put-beside (d ∷ ds) m o x v (inl e) = absurd (cc e)
put-beside (d ∷ ds) m o x v (inr k) = put-beside ds m o x v k

archives-beside : (k : RunLogs) (r : ℕ) (m : List Mark) (ds : Decisions) → Archives k r m
    → ((s : StampParts) (c : Bool) → Has (s, c) ds → (q : ℕ) × (in_run k q ≡ true) × (settle_of (marks (log_of k q)) s ≡ Some c)) → Archives k r (beside_homes ds m)
archives-beside k r m ds a told = record {
  inside = a.inside;
  has = λ o x v h. has-right (map (λ d. mark.Settle d.0 d.1) ds) m (mark.Put o x v) (a.has o x v h);
  from = λ o x v h. a.from o x v (put-beside ds m o x v h);
  home = λ o x v h. a.home o x v (put-beside ds m o x v h);
  step = λ o x v h. a.step o x v (put-beside ds m o x v h);
  sure = λ s c e. ⊎_elim (λ h. told s c h) (λ h. a.sure s c h) (settled-beside ds m s c e);
}

-- ---- a past

pub idle-tells : (cs : List Earlier) (r n : ℕ) (s : StampParts) → IsPast cs → 1 ≤ r → r ≤ n → TellsMap r (archive (volumes_left cs r)) s (before (idle_run cs n) s)
idle-tells cs r n s past low high =
    let its : Facts cs = facts-of cs past in
    let inside : in_run (idle_run cs n) r ≡ true = (elim (nat_le 1 r) as (λ a. (b : Bool) → a ≡ true → b ≡ true → (a && b) ≡ true) [ true ↦ λ b h k. k | false ↦ λ b h k. absurd (false≢true h) ]) (nat_le r n) (le-leb 1 r low) (le-leb r n high) in
    tells-map (idle_run cs n) (requests (its.past ++ []))
    (idle-facts its.script (no_base its.script) (log_after cs) (replaced own_reading cs) its.past [] (TickedBy cs []) its.facts n) r (archive (volumes_left cs r))
    (archives its.script (no_base its.script) (log_after cs) (replaced own_reading cs) its.past [] (TickedBy cs []) its.facts (idle_run cs n) r inside refl) s

-- a repository from 1 to n is one of the run
inside-run : (k : RunLogs) (r : ℕ) → 1 ≤ r → r ≤ k.repositories → in_run k r ≡ true
inside-run k r low high = (elim (nat_le 1 r) as (λ a. (b : Bool) → a ≡ true → b ≡ true → (a && b) ≡ true) [ true ↦ λ b h k. k | false ↦ λ b h k. absurd (false≢true h) ]) (nat_le r k.repositories) (le-leb 1 r low) (le-leb r k.repositories high)

pub homes-tell : (cs : List Earlier) (r n : ℕ) (s : StampParts) (ds : Decisions) → IsPast cs → 1 ≤ r → r ≤ n → Every (HomeKnows cs n) ds
    → TellsMap r (beside_homes ds (archive (volumes_left cs r))) s (before (idle_run cs n) s)
homes-tell cs r n s ds past low high told =
    let its : Facts cs = facts-of cs past in
    let k : RunLogs = idle_run cs n in
    tells-map k (requests (its.past ++ []))
    (idle-facts its.script (no_base its.script) (log_after cs) (replaced own_reading cs) its.past [] (TickedBy cs []) its.facts n) r (beside_homes ds (archive (volumes_left cs r)))
    (archives-beside k r (archive (volumes_left cs r)) ds
    (archives its.script (no_base its.script) (log_after cs) (replaced own_reading cs) its.past [] (TickedBy cs []) its.facts k r (inside-run k r low high) refl)
    (λ p c h. let d = every-has (HomeKnows cs n) ds (p, c) told h in
    (p.home, inside-run k p.home d.0 d.1, settle-whole (map reverse (replaced own_reading cs (repository p.home))) (reverse (log_after cs (repository p.home))) p ∙ d.2))) s
