-- Runs begin and end, one after another; and the facts of a legal trace over logs with a past.
use Rattle.world_facts.proofs.Names.{Every, Has, NodeId, every-map, Effect, Each, Post, each_below, Asked, Fate, same_node, same_is, Tree, Plan, Entry, Trace, repository, is_ready, Base, Life, World, opened_log, sent_by, start_world, walk, Meets, Legal, base_of, fates_of, in_plan, Call, IsCall, log_left, logs_after, OpenedWith, AreCalls, alike, meets-front, Around, Later, NodeFacts, SomeOf, Turns, NodeLaws, PastLaws, SoftNode, all_effects, put, crash, opened_soft, Soft, around, SoftEvent, happened, Mays, Lineage, NodeOk, OldOk, SentOnce, Inv, Crash, soft_of, past_sent, Refines, Left, logs_at, LogFacts, OlderFacts, ◌≡◌, ℕ, ◌-◌, Bool, true, false, List, [], ◌∷◌, ◌++◌, drop, take, length, map, reverse, if◌then◌else◌, refl, sym, ◌∙◌, ap, subst, ◌⊎◌, inl, inr, Option, Some, None, is_some, unwrap_or, append-nil, reverse-append, AllReady, HasPast, kept_log, SentOk, PastTick, Ticked, LivesOk}
use Rattle.effect_form.specs.declared.effects.Effect.TheVariants as effect
use Rattle.world_core.specs.declared.entries.Entry.TheVariants as entry
use Rattle.world_core.specs.declared.traces.Opened.{Opened}
use Rattle.world_facts.proofs.Growths.{each-map, drop-none, length-reverse, take-back}
use Rattle.world_facts.proofs.Keeps.{inv-reached, old-later}
use Rattle.world_facts.proofs.Refinements.{ready-gated, walk-refines}

-- ---- each node of a list crashes

kept-again : (kept start : ℕ) (log : List Effect) → kept_log kept (opened_soft log start) ≡ log
kept-again kept start log = ap (λ l. l ++ log) (drop-none (0 - kept) [] refl)

-- where nothing is open, all of the log is kept
kept-all : (kept : ℕ) (x : SoftNode) → x.added ≡ [] → kept_log kept x ≡ x.past
kept-all kept x e = ap (λ l. l ++ x.past) (drop-none (length x.added - kept) x.added e)

-- what is left of a life, turned round
kept-left : (kept : ℕ) (l : Life) → kept_log kept (soft_of l) ≡ reverse (l.gated ++ take kept l.fresh)
kept-left kept l = ap (λ n. drop (n - kept) (reverse l.fresh) ++ reverse l.gated) (length-reverse l.fresh) ∙ ap (λ x. x ++ reverse l.gated) (sym (take-back kept l.fresh)) ∙ sym (reverse-append l.gated (take kept l.fresh))

module _ (kept : NodeId → ℕ) (start : ℕ) where
  pub record Crashed (os : List Opened) (old new : NodeId → SoftNode) : Type 0 where
    pub inside : (n : NodeId) → is_some (opened_log os n) ≡ true → new n ≡ opened_soft (kept_log (kept n) (old n)) start
    pub outside : (n : NodeId) → is_some (opened_log os n) ≡ false → new n ≡ old n

  crash-here : (o : Opened) (os : List Opened) (old new : NodeId → SoftNode) → Crashed os old new → kept_log (kept o.node) (new o.node) ≡ kept_log (kept o.node) (old o.node)
  crash-here o os old new h = go (is_some (opened_log os o.node)) refl
    where
      go : (t : Bool) → is_some (opened_log os o.node) ≡ t → kept_log (kept o.node) (new o.node) ≡ kept_log (kept o.node) (old o.node)
      go true e = ap (kept_log (kept o.node)) (h.inside o.node e) ∙ kept-again (kept o.node) start (kept_log (kept o.node) (old o.node))
      go false e = ap (kept_log (kept o.node)) (h.outside o.node e)

  crash-one : (o : Opened) (os : List Opened) (old new : NodeId → SoftNode) → Crashed os old new → Crashed (o ∷ os) old (put o.node (crash (kept o.node) start (new o.node)) new)
  crash-one o os old new h = record { inside = λ n. within n (same_node o.node n) refl; outside = λ n. without n (same_node o.node n) refl }
    where
      within : (n : NodeId) (t : Bool) → same_node o.node n ≡ t → is_some (if t then Some o.effects else opened_log os n) ≡ true →
          (if t then crash (kept o.node) start (new o.node) else new n) ≡ opened_soft (kept_log (kept n) (old n)) start
      within n true q e = subst (λ z. crash (kept o.node) start (new o.node) ≡ opened_soft (kept_log (kept z) (old z)) start) (same_is o.node n q) (ap (λ l. opened_soft l start) (crash-here o os old new h))
      within n false q e = h.inside n e

      without : (n : NodeId) (t : Bool) → same_node o.node n ≡ t → is_some (if t then Some o.effects else opened_log os n) ≡ false →
          (if t then crash (kept o.node) start (new o.node) else new n) ≡ old n
      without n true q e = absurd (cc e)
      without n false q e = h.outside n e

  module _ (turns : Turns) (F : NodeFacts) where
    pub record AllCrashed (os : List Opened) (es : List SoftEvent) : Type 0 where
      pub events : List SoftEvent
      pub may : Mays F turns events
      pub crashed : Crashed os (happened turns es).node (happened turns events).node
      pub olds : (happened turns events).olds ≡ (happened turns es).olds
      pub ever : (happened turns events).ever ≡ (happened turns es).ever
      pub ticks : (happened turns events).ticks ≡ (happened turns es).ticks

    pub crash-all : (os : List Opened) (es : List SoftEvent) → Mays F turns es → AllCrashed os es
    crash-all [] es may = record { events = es; may = may; crashed = record { inside = λ n e. absurd (cc e); outside = λ n e. refl }; olds = refl; ever = refl; ticks = refl }
    crash-all (o ∷ os) es may =
        let r : AllCrashed os es = crash-all os es may in
        record {
          events = Crash o.node (kept o.node) start ∷ r.events;
          may = r.may;
          crashed = crash-one o os (happened turns es).node (happened turns r.events).node r.crashed;
          olds = r.olds;
          ever = r.ever;
          ticks = r.ticks;
        }

found-log : (logs : NodeId → List Effect) (n : NodeId) (found : Option (List Effect)) → ((log : List Effect) → found ≡ Some log → log ≡ logs n) → is_some found ≡ true → unwrap_or found [] ≡ logs n
found-log logs n None h e = absurd (cc e)
found-log logs n (Some log) h e = h log refl

no-log : (found : Option (List Effect)) → is_some found ≡ false → unwrap_or found [] ≡ []
no-log None e = refl
no-log (Some log) e = absurd (cc e)

module _ (script : List ℕ → Tree) (turns : Turns) (F : NodeFacts) (laws : NodeLaws script turns F) where
  pub ready-start : PastLaws script F → (b : Base) → b.script ≡ script → AllReady b → (n : NodeId) → is_some (opened_log b.opened n) ≡ true → F.Ready b.run b.acts n (reverse (unwrap_or (opened_log b.opened n) []))
  ready-start past b same ready n e = go (opened_log b.opened n) refl e
    where
      go : (found : Option (List Effect)) → opened_log b.opened n ≡ found → is_some found ≡ true → F.Ready b.run b.acts n (reverse (unwrap_or found []))
      go None q e = absurd (cc e)
      go (Some log) q e = past.ready_is b.run b.acts n log (subst (λ z. is_ready z b.run b.acts n log ≡ true) same (ready n log q))

  -- a run begins
  pub opens : (b : Base) (logs : NodeId → List Effect) (olds : NodeId → List (List Effect)) (old : List Post) (Before May : ℕ → Type 0) → ((t : ℕ) → Before t → May t) → Left turns F logs olds old Before → OpenedWith b.opened logs →
      ((n : NodeId) → is_some (opened_log b.opened n) ≡ true → F.Ready b.run b.acts n (reverse (unwrap_or (opened_log b.opened n) []))) → Refines turns F b logs olds old May (start_world b)
  opens b logs olds sent Before May wider left agrees ready =
      let c : AllCrashed (λ n. 0) b.start turns F b.opened left.events = crash-all (λ n. 0) b.start turns F b.opened left.events left.may in
      let old : NodeId → SoftNode = (happened turns left.events).node in
      let is : (n : NodeId) → kept_log 0 ((happened turns left.events).node n) ≡ reverse (logs n) = λ n. kept-all 0 ((happened turns left.events).node n) (left.fresh n) ∙ left.gated n in
      record {
        events = c.events;
        may = c.may;
        models = record {
          known = λ n. refl;
          ups = λ n up. up;
          lives = λ n e. c.crashed.inside n e ∙ ap (λ l. opened_soft l b.start) (is n ∙ ap reverse (sym (found-log logs n (opened_log b.opened n) (agrees n) e)));
          outside = λ n e. (ap (λ (x : SoftNode). x.past) (c.crashed.outside n e) ∙ left.gated n, ap (λ (x : SoftNode). x.added) (c.crashed.outside n e) ∙ left.fresh n);
          unknown = λ n e. no-log (opened_log b.opened n) e;
          retired = λ n. ap (λ (f : NodeId → List (List Effect)). f n) c.olds ∙ left.retired n;
          ever = c.ever ∙ left.ever ∙ sym (append-nil sent);
          ticks = λ t e. absurd (cc e);
          ticked = λ t h. wider t (left.ticked t (subst (Has t) c.ticks h));
          ready = ready;
        };
      }

  -- a run ends
  ends : (b : Base) (logs : NodeId → List Effect) (olds : NodeId → List (List Effect)) (old : List Post) (May : ℕ → Type 0) (w : World) (kept : NodeId → ℕ) (after : NodeId → List Effect) → Refines turns F b logs olds old May w →
      ((n : NodeId) → is_some (opened_log b.opened n) ≡ true → after n ≡ (w.life n).gated ++ take (kept n) (w.life n).fresh) →
      ((n : NodeId) → is_some (opened_log b.opened n) ≡ false → after n ≡ logs n) → Left turns F after olds (old ++ sent_by w) May
  ends b logs olds old May w kept after r inside outside =
      let c : AllCrashed kept 0 turns F b.opened r.events = crash-all kept 0 turns F b.opened r.events r.may in
      record {
        events = c.events;
        may = c.may;
        gated = λ n. (go c n (is_some (opened_log b.opened n)) refl).0;
        fresh = λ n. (go c n (is_some (opened_log b.opened n)) refl).1;
        retired = λ n. ap (λ (f : NodeId → List (List Effect)). f n) c.olds ∙ r.models.retired n;
        ever = c.ever ∙ r.models.ever;
        ticked = λ t h. r.models.ticked t (subst (Has t) c.ticks h);
      }
    where
      go : (c : AllCrashed kept 0 turns F b.opened r.events) (n : NodeId) (t : Bool) → is_some (opened_log b.opened n) ≡ t →
          (((happened turns c.events).node n).past ≡ reverse (after n)) × (((happened turns c.events).node n).added ≡ [])
      go c n true e = (
        ap (λ (x : SoftNode). x.past) (c.crashed.inside n e) ∙ ap (kept_log (kept n)) (r.models.lives n (r.models.known n ∙ e)) ∙ kept-left (kept n) (w.life n) ∙ ap reverse (sym (inside n e)),
        ap (λ (x : SoftNode). x.added) (c.crashed.inside n e),
      )
      go c n false e = (
        ap (λ (x : SoftNode). x.past) (c.crashed.outside n e) ∙ (r.models.outside n (r.models.known n ∙ e)).0 ∙ ap reverse (sym (outside n e)),
        ap (λ (x : SoftNode). x.added) (c.crashed.outside n e) ∙ (r.models.outside n (r.models.known n ∙ e)).1,
      )

  pub left-nothing : PastLaws script F → Left turns F (λ n. []) (λ n. []) [] (PastTick [])
  left-nothing past = record { events = []; may = λ n. (past.empty n, past.begins n); gated = λ n. refl; fresh = λ n. refl; retired = λ n. refl; ever = refl; ticked = λ t h. absurd h }

  -- a run between what was left before it and what it left
  pub call-left : PastLaws script F → (c : Call) (logs : NodeId → List Effect) (olds : NodeId → List (List Effect)) (old : List Post) (Before May : ℕ → Type 0) → ((t : ℕ) → Before t → May t) →
      ((t : ℕ) → Has (entry.Tick t) c.trace.entries → May t) → IsCall (alike script) logs c → Left turns F logs olds old Before →
      Left turns F (λ n. if in_plan c.plan n then log_left (alike script) c n else logs n) olds (old ++ sent_by (walk (base_of script c.plan c.trace) c.trace.entries)) May
  call-left past c logs olds old Before May wider ticks is left =
      let b : Base = base_of script c.plan c.trace in
      let r : Refines turns F (base_of script c.plan c.trace) logs olds old May (walk (base_of script c.plan c.trace) c.trace.entries) =
      walk-refines script turns F laws (base_of script c.plan c.trace) logs olds old May refl (fates_of c.trace.sent) (start_world (base_of script c.plan c.trace)) c.trace.entries ticks
      (opens (base_of script c.plan c.trace) logs olds old Before May wider left is.agrees (ready-start past (base_of script c.plan c.trace) refl is.legal.ready)) is.legal.meets in
      ends (base_of script c.plan c.trace) logs olds old May (walk (base_of script c.plan c.trace) c.trace.entries) c.kept (λ n. if in_plan c.plan n then log_left (alike script) c n else logs n) r
      (λ n e. ap (λ t. if t then log_left (alike script) c n else logs n) (sym (is.legal.nodes.just n) ∙ e))
      (λ n e. ap (λ t. if t then log_left (alike script) c n else logs n) (sym (is.legal.nodes.just n) ∙ e))

  past-left : PastLaws script F → (cs : List Call) → AreCalls (alike script) cs → Left turns F (logs_after (alike script) cs) (λ n. []) (past_sent (alike script) cs) (PastTick cs)
  past-left past [] h = left-nothing past
  past-left past (c ∷ cs) h = call-left past c (logs_after (alike script) cs) (λ n. []) (past_sent (alike script) cs) (PastTick cs) (PastTick (c ∷ cs)) (λ t k. inr k) (λ t k. inl k) h.1 (past-left past cs h.0)

  -- a trace over what was left
  pub over-left : PastLaws script F → (b : Base) (fates : List Fate) (logs : NodeId → List Effect) (olds : NodeId → List (List Effect)) (old : List Post) (Before May : ℕ → Type 0) (es : List Entry) → b.script ≡ script →
      ((t : ℕ) → Before t → May t) → ((t : ℕ) → Has (entry.Tick t) es → May t) → Left turns F logs olds old Before → OpenedWith b.opened logs → AllReady b →
      Meets b fates (start_world b) es → Refines turns F b logs olds old May (walk b es)
  over-left start b fates logs olds old Before May es same wider ticks left agrees ready rules =
      walk-refines script turns F laws b logs olds old May same fates (start_world b) es ticks (opens b logs olds old Before May wider left agrees (ready-start start b same ready)) rules

  -- logs that are the same everywhere were left the same
  pub left-same : (logs other : NodeId → List Effect) (olds : NodeId → List (List Effect)) (old : List Post) (May : ℕ → Type 0) → ((n : NodeId) → other n ≡ logs n) → Left turns F logs olds old May → Left turns F other olds old May
  left-same logs other olds old May same l = record { events = l.events; may = l.may; gated = λ n. l.gated n ∙ ap reverse (sym (same n)); fresh = l.fresh; retired = l.retired; ever = l.ever; ticked = l.ticked }

  -- a trace over logs with a past of runs
  pub refined : PastLaws script F → (b : Base) (fates : List Fate) (logs : NodeId → List Effect) (es : List Entry) → b.script ≡ script → (past : HasPast (alike script) logs) → OpenedWith b.opened logs → AllReady b →
      Meets b fates (start_world b) es → Refines turns F b logs (λ n. []) (past_sent (alike script) past.0) (Ticked past.0 es) (walk b es)
  refined start b fates logs es same past agrees ready rules =
      over-left start b fates logs (λ n. []) (past_sent (alike script) past.0) (PastTick past.0) (Ticked past.0 es) es same (λ t h. inr h) (λ t h. inl h)
      (left-same (logs_after (alike script) past.0) logs (λ n. []) (past_sent (alike script) past.0) (PastTick past.0) past.2 (past-left start past.0 past.1)) agrees ready rules

  -- ---- the facts

  -- the durable logs of both worlds are one
  gated-same : (b : Base) (logs : NodeId → List Effect) (olds : NodeId → List (List Effect)) (old : List Post) (May : ℕ → Type 0) (w : World) (r : Refines turns F b logs olds old May w) (n : NodeId)
      → ((happened turns r.events).node n).past ≡ reverse (logs_at logs w n)
  gated-same b logs olds old May w r n = go (w.flags n).known refl
    where
      go : (t : Bool) → (w.flags n).known ≡ t → ((happened turns r.events).node n).past ≡ reverse (logs_at logs w n)
      go true e = ap (λ (x : SoftNode). x.past) (r.models.lives n e) ∙ ap reverse (sym (ap (λ t. if t then (w.life n).gated else logs n) e))
      go false e = (r.models.outside n e).0 ∙ ap reverse (sym (ap (λ t. if t then (w.life n).gated else logs n) e))

  abbrev around_at : (logs : NodeId → List Effect) (old : List Post) (w : World) (ticks : List ℕ) → Around
  around_at logs old w ticks = record { ever = old ++ sent_by w; logs = λ k. reverse (logs_at logs w k); ticks = ticks }

  later-same : (b : Base) (logs : NodeId → List Effect) (olds : NodeId → List (List Effect)) (old : List Post) (May : ℕ → Type 0) (w : World) (r : Refines turns F b logs olds old May w)
      → Later (around (happened turns r.events)) (around_at logs old w (happened turns r.events).ticks)
  later-same b logs olds old May w r = record {
    more = [];
    ever = sym r.models.ever ∙ sym (append-nil (happened turns r.events).ever);
    homes = λ t d c. subst (Has (effect.Decide t d)) (gated-same b logs olds old May w r (repository t.home)) c;
    ticks = λ t c. c;
  }

  pub older-of : (b : Base) (logs : NodeId → List Effect) (olds : NodeId → List (List Effect)) (old : List Post) (May : ℕ → Type 0) (w : World) → Refines turns F b logs olds old May w →
      OlderFacts F b (logs_at logs w) olds old (sent_by w) May
  older-of b logs olds old May w r =
      let s : Soft = happened turns r.events in
      let inv : Inv F s = inv-reached script turns F laws r.events r.may in
      let same : (n : NodeId) → (s.node n).past ≡ reverse (logs_at logs w n) = gated-same b logs olds old May w r in
      let later : Later (around s) (around_at logs old w s.ticks) = later-same b logs olds old May w r in
      record {
        ticks = s.ticks;
        ticked = r.models.ticked;
        tidy = λ n. subst (F.Tidy n) (same n) (inv.nodes n).tidy;
        proofs = λ n. each-map (F.Proof (around s) n) (F.Proof (around_at logs old w s.ticks) n)
            (λ log f. laws.later (around s) (around_at logs old w s.ticks) n log f later) (reverse (logs_at logs w n))
            (subst (Each (F.Proof (around s) n)) (same n) (each_below (F.Proof (around s) n) (s.node n).past (s.node n).added (inv.nodes n).proofs));
        older = λ n. subst (Every (OldOk F (around_at logs old w s.ticks) n)) (r.models.retired n) (old-later script turns F laws (around s) (around_at logs old w s.ticks) later n (s.olds n) (inv.older n));
        lineage = λ n. subst (λ o. Lineage F n o (reverse (logs_at logs w n))) (r.models.retired n) (subst (Lineage F n (s.olds n)) (same n) (inv.lineage n));
        sent_ok = subst (λ e. Every (SentOnce F e (λ k. reverse (logs_at logs w k)) (λ k. map reverse (olds k))) e) r.models.ever
            (every-map (SentOnce F s.ever (λ n. (s.node n).past) s.olds) (SentOnce F s.ever (λ k. reverse (logs_at logs w k)) (λ k. map reverse (olds k)))
            (λ p q. subst (λ g. SomeOf (λ l. F.PostOk s.ever p.from l (record { to = p.to; message = p.message })) (g ∷ map reverse (olds p.from))) (same p.from)
            (subst (λ o. SomeOf (λ l. F.PostOk s.ever p.from l (record { to = p.to; message = p.message })) ((s.node p.from).past ∷ o)) (r.models.retired p.from) q)) s.ever inv.sent);
        ready = λ n e.
            let known : (w.flags n).known ≡ true = r.models.known n ∙ e in
            subst (F.Ready b.run b.acts n) (same n)
            (ready-gated script turns F laws b.run b.acts n (s.node n).past (s.node n).added (inv.nodes n).tidy (inv.nodes n).grew
            (subst (λ x. F.Ready b.run b.acts n (all_effects x)) (sym (r.models.lives n known)) (r.models.ready n known)));
      }

  -- where no log was ever retired
  pub facts-alone : (b : Base) (logs : NodeId → List Effect) (old sent : List Post) (May : ℕ → Type 0) → OlderFacts F b logs (λ n. []) old sent May → LogFacts F b logs old sent May
  facts-alone b logs old sent May f = record {
    ticks = f.ticks;
    ticked = f.ticked;
    tidy = f.tidy;
    grown = f.lineage;
    proofs = f.proofs;
    sent_ok = every-map (SentOnce F (old ++ sent) (λ k. reverse (logs k)) (λ k. [])) (SentOk F (old ++ sent) (λ k. reverse (logs k)))
        (λ p h. first-of (F.PostOk (old ++ sent) p.from (reverse (logs p.from)) (record { to = p.to; message = p.message })) h) (old ++ sent) f.sent_ok;
    ready = f.ready;
  }
    where
      first-of : (A : Type 0) → A ⊎ ⊥ → A
      first-of A (inl a) = a
      first-of A (inr h) = absurd h

  pub facts-of : (b : Base) (logs : NodeId → List Effect) (old : List Post) (May : ℕ → Type 0) (w : World) → Refines turns F b logs (λ n. []) old May w → LogFacts F b (logs_at logs w) old (sent_by w) May
  facts-of b logs old May w r = facts-alone b (logs_at logs w) old (sent_by w) May (older-of b logs (λ n. []) old May w r)

  -- what holds of a node holds of its life in the walk
  life-ok : (b : Base) (logs : NodeId → List Effect) (olds : NodeId → List (List Effect)) (old : List Post) (May : ℕ → Type 0) (w : World) (r : Refines turns F b logs olds old May w) (n : NodeId) (x : SoftNode)
      → NodeOk F (around (happened turns r.events)) n x → NodeOk F (around_at logs old w (happened turns r.events).ticks) n x
  life-ok b logs olds old May w r n x h = record {
    tidy = h.tidy;
    grew = h.grew;
    proofs = each-map (F.Proof (around (happened turns r.events)) n) (F.Proof (around_at logs old w (happened turns r.events).ticks) n)
        (λ log f. laws.later (around (happened turns r.events)) (around_at logs old w (happened turns r.events).ticks) n log f (later-same b logs olds old May w r)) (all_effects x) h.proofs;
    mind_ok = subst (λ e. F.MindOk e n x.mind) r.models.ever h.mind_ok;
    outs = subst (λ e. Every (F.PostOk e n (all_effects x)) x.outs) r.models.ever h.outs;
  }

  pub lives-of : (b : Base) (logs : NodeId → List Effect) (olds : NodeId → List (List Effect)) (old : List Post) (May : ℕ → Type 0) (w : World) → Refines turns F b logs olds old May w → LivesOk F b (logs_at logs w) old May w
  lives-of b logs olds old May w r = record {
    ticks = (happened turns r.events).ticks;
    ticked = r.models.ticked;
    nodes = λ n known. life-ok b logs olds old May w r n (soft_of (w.life n))
        (subst (λ x. NodeOk F (around (happened turns r.events)) n x) (r.models.lives n known) ((inv-reached script turns F laws r.events r.may).nodes n));
    ready = r.models.ready;
  }

  -- the facts of a legal trace over logs with a past, at its end and after each of its entries
  pub legal-facts : PastLaws script F → (plan : Plan) (asked : List Asked) (t : Trace) (logs : NodeId → List Effect) (front rest : List Entry) → (past : HasPast (alike script) logs) → OpenedWith t.opened logs →
      Legal script plan asked t → t.entries ≡ front ++ rest →
      LogFacts F (base_of script plan t) (logs_at logs (walk (base_of script plan t) front)) (past_sent (alike script) past.0) (sent_by (walk (base_of script plan t) front)) (Ticked past.0 front)
  legal-facts start plan asked t logs front rest past agrees legal here =
      facts-of (base_of script plan t) logs (past_sent (alike script) past.0) (Ticked past.0 front) (walk (base_of script plan t) front)
      (refined start (base_of script plan t) (fates_of t.sent) logs front refl past agrees legal.ready
      (meets-front (base_of script plan t) (fates_of t.sent) (start_world (base_of script plan t)) front rest
      (subst (Meets (base_of script plan t) (fates_of t.sent) (start_world (base_of script plan t))) here legal.meets)))

  pub legal-lives : PastLaws script F → (plan : Plan) (asked : List Asked) (t : Trace) (logs : NodeId → List Effect) (front rest : List Entry) → (past : HasPast (alike script) logs) → OpenedWith t.opened logs →
      Legal script plan asked t → t.entries ≡ front ++ rest →
      LivesOk F (base_of script plan t) (logs_at logs (walk (base_of script plan t) front)) (past_sent (alike script) past.0) (Ticked past.0 front) (walk (base_of script plan t) front)
  legal-lives start plan asked t logs front rest past agrees legal here =
      lives-of (base_of script plan t) logs (λ n. []) (past_sent (alike script) past.0) (Ticked past.0 front) (walk (base_of script plan t) front)
      (refined start (base_of script plan t) (fates_of t.sent) logs front refl past agrees legal.ready
      (meets-front (base_of script plan t) (fates_of t.sent) (start_world (base_of script plan t)) front rest
      (subst (Meets (base_of script plan t) (fates_of t.sent) (start_world (base_of script plan t))) here legal.meets)))
