-- Each event keeps what always holds.
use Rattle.world_facts.proofs.Names.{Every, Has, StampParts, Decision, NodeId, every-map, every-has, has-right, ActSpec, Effect, Out, Grew, Each, Post, posts, each_below, Tree, Input, Given, repository, Taking, Around, GrownFrom, Later, NodeFacts, SomeOf, Turns, MayInput, SenderOk, TurnGiven, TurnGives, NodeLaws, SoftNode, all_effects, gate, crash, opened_soft, Soft, put, around, SoftEvent, react, happened, Mays, Lineage, NodeOk, OldOk, SentOnce, Inv, Start, React, Gate, Crash, Retire, Tick, ◌≡◌, ℕ, ◌-◌, Bool, List, [], ◌∷◌, ◌++◌, length, refl, sym, ◌∙◌, ap, subst, append_assoc, inl, inr, filter, append-nil, every-append, post, grew_keeps, grew_on, grew_drop, each_grew, keep, happens, nothing, May}
use Rattle.effect_form.specs.declared.effects.Effect.TheVariants as effect
use Rattle.world_facts.proofs.Growths.{each-map, each-drop, every-filter, every-of-map, or-left, put-all, put-both, put-here}

module _ (script : List ℕ → Tree) (turns : Turns) (F : NodeFacts) (laws : NodeLaws script turns F) where
  -- ---- facts of a node along its own growth

  pub tidy-grown : (n : NodeId) (log fresh : List Effect) → Grew (F.Fits n) log fresh → F.Tidy n log → F.Tidy n (fresh ++ log)
  tidy-grown n log fresh g t = grew_keeps (F.Fits n) (F.Tidy n) (λ l f. laws.tidied n l f) log fresh g t

  pub post-grown : (ever : List Post) (n : NodeId) (out : Out) (log fresh : List Effect) → Grew (F.Fits n) log fresh → F.Tidy n log → F.PostOk ever n log out → F.PostOk ever n (fresh ++ log) out
  post-grown ever n out log fresh g t p =
      let both : F.Tidy n (fresh ++ log) × F.PostOk ever n (fresh ++ log) out =
      grew_keeps (F.Fits n) (λ l. F.Tidy n l × F.PostOk ever n l out) (λ l f h fits. (laws.tidied n l f h.0 fits, laws.stays ever n l f out h.0 fits h.1)) log fresh g (t, p) in
      both.1

  -- more around a node
  pub node-later : (w v : Around) → Later w v → (n : NodeId) (x : SoftNode) → NodeOk F w n x → NodeOk F v n x
  node-later w v l n x h = record {
    tidy = h.tidy;
    grew = h.grew;
    proofs = each-map (F.Proof w n) (F.Proof v n) (λ log f. laws.later w v n log f l) (x.added ++ x.past) h.proofs;
    mind_ok = subst (λ e. F.MindOk e n x.mind) (sym l.ever) (laws.more_mind w.ever l.more n x.mind h.mind_ok);
    outs = subst (λ e. Every (F.PostOk e n (x.added ++ x.past)) x.outs) (sym l.ever)
        (every-map (F.PostOk w.ever n (x.added ++ x.past)) (F.PostOk (w.ever ++ l.more) n (x.added ++ x.past)) (λ out p. laws.more_posts w.ever l.more n (x.added ++ x.past) out p) x.outs h.outs);
  }

  -- ---- older logs

  -- what holds of one of a node's logs holds of one each of whose decisions stands in the last
  pub decided-still : (P : List Effect → Type 0) (n : NodeId) (olds : List (List Effect)) (log : List Effect) → Lineage F n olds log → SomeOf P (log ∷ olds) →
      (l : List Effect) × ((s : StampParts) (d : Decision) → Has (effect.Decide s d) l → Has (effect.Decide s d) log) × P l
  decided-still P n olds log k (inl p) = (log, (λ s d h. h), p)
  decided-still P n [] log k (inr p) = absurd p
  decided-still P n (old ∷ olds) log k (inr p) =
      let r = decided-still P n olds old k.0 p in
      (r.0, (λ s d h. subst (Has (effect.Decide s d)) (sym k.1.2.is) (has-right k.1.2.early k.1.0 (effect.Decide s d) (laws.retired_decided n old k.1.0 k.1.1 s d (r.1 s d h)))), r.2)

  grown-on : (n : NodeId) (base log late : List Effect) → GrownFrom (F.Fits n) base log → Grew (F.Fits n) log late → GrownFrom (F.Fits n) base (late ++ log)
  grown-on n base log late g grew = record {
    early = late ++ g.early;
    is = ap (λ l. late ++ l) g.is ∙ sym (append_assoc late g.early base);
    grew = grew_on (F.Fits n) base g.early late g.grew (subst (λ l. Grew (F.Fits n) l late) g.is grew);
  }

  lineage-on : (n : NodeId) (olds : List (List Effect)) (log late : List Effect) → Lineage F n olds log → Grew (F.Fits n) log late → Lineage F n olds (late ++ log)
  lineage-on n [] log late k grew = (k.0, k.1, grown-on n k.0 log late k.2 grew)
  lineage-on n (old ∷ olds) log late k grew = (k.0, (k.1.0, k.1.1, grown-on n k.1.0 log late k.1.2 grew))

  some-map : (P Q : List Effect → Type 0) → ((log : List Effect) → P log → Q log) → (logs : List (List Effect)) → SomeOf P logs → SomeOf Q logs
  some-map P Q f [] h = h
  some-map P Q f (log ∷ logs) (inl p) = inl (f log p)
  some-map P Q f (log ∷ logs) (inr p) = inr (some-map P Q f logs p)

  more-sent : (ever more : List Post) (logs : NodeId → List Effect) (olds : NodeId → List (List Effect)) (p : Post) → SentOnce F ever logs olds p → SentOnce F (ever ++ more) logs olds p
  more-sent ever more logs olds p h = some-map (λ l. F.PostOk ever p.from l (record { to = p.to; message = p.message })) (λ l. F.PostOk (ever ++ more) p.from l (record { to = p.to; message = p.message }))
      (λ l q. laws.more_posts ever more p.from l (record { to = p.to; message = p.message }) q) (logs p.from ∷ olds p.from) h

  pub old-later : (w v : Around) → Later w v → (n : NodeId) (olds : List (List Effect)) → Every (OldOk F w n) olds → Every (OldOk F v n) olds
  old-later w v l n olds h = every-map (OldOk F w n) (OldOk F v n) (λ log k. (k.0, each-map (F.Proof w n) (F.Proof v n) (λ below f. laws.later w v n below f l) log k.1)) olds h

  -- ---- an input

  pub turn-given : (s : Soft) (run : ℕ) (acts : List ActSpec) (n : NodeId) → Inv F s → F.Ready run acts n (all_effects (s.node n)) →
      TurnGiven F (around s) run acts n (all_effects (s.node n)) (s.node n).mind
  turn-given s run acts n inv ready =
      let x : SoftNode = s.node n in
      let h : NodeOk F (around s) n (s.node n) = inv.nodes n in
      record { tidy = tidy-grown n x.past x.added h.grew h.tidy; proofs = h.proofs; mind_ok = h.mind_ok; ready = ready; added = x.added; own = refl; grew = h.grew }

  sender-ok : (s : Soft) (n : NodeId) (input : Input) → Inv F s → MayInput (around s) n input → SenderOk F (around s) n input
  sender-ok s n (Taking from m) inv may =
      decided-still (λ log. F.PostOk s.ever from log (record { to = n; message = m })) from (s.olds from) (s.node from).past (inv.lineage from)
      (every-has (SentOnce F s.ever (λ k. (s.node k).past) s.olds) s.ever (post from (record { to = n; message = m })) inv.sent may)
  sender-ok s n _ inv may = tt

  pub turn-gives : (s : Soft) (run : ℕ) (acts : List ActSpec) (n : NodeId) (input : Input) → Inv F s → MayInput (around s) n input → F.Ready run acts n (all_effects (s.node n)) →
      TurnGives F (around s) run acts n (all_effects (s.node n)) (turns run acts n (all_effects (s.node n)) (s.node n).mind input)
  turn-gives s run acts n input inv may ready = laws.turn (around s) run acts n (all_effects (s.node n)) (s.node n).mind input (turn-given s run acts n inv ready) may (sender-ok s n input inv may)

  turned : (w : Around) (run : ℕ) (acts : List ActSpec) (n : NodeId) (x : SoftNode) (g : Given) → NodeOk F w n x → TurnGives F w run acts n (all_effects x) g →
      NodeOk F w n (record { past = x.past; added = g.effects ++ x.added; outs = x.outs ++ g.outs; mind = g.mind })
  turned w run acts n x g h gives =
      let e : g.effects ++ (x.added ++ x.past) ≡ (g.effects ++ x.added) ++ x.past = sym (append_assoc g.effects x.added x.past) in
      let tidy : F.Tidy n (all_effects x) = tidy-grown n x.past x.added h.grew h.tidy in
      record {
        tidy = h.tidy;
        grew = grew_on (F.Fits n) x.past x.added g.effects h.grew gives.grew;
        proofs = subst (λ l. Each (F.Proof w n) l) e (each_grew (F.Proof w n) (all_effects x) g.effects h.proofs gives.proofs);
        mind_ok = gives.mind_ok;
        outs = subst (λ l. Every (F.PostOk w.ever n l) (x.outs ++ g.outs)) e
            (every-append (F.PostOk w.ever n (g.effects ++ all_effects x)) x.outs g.outs
            (every-map (F.PostOk w.ever n (all_effects x)) (F.PostOk w.ever n (g.effects ++ all_effects x)) (λ out p. post-grown w.ever n out (all_effects x) g.effects gives.grew tidy p) x.outs h.outs)
            gives.outs);
      }

  pub react-ok : (s : Soft) (run : ℕ) (acts : List ActSpec) (n : NodeId) (input : Input) → Inv F s → MayInput (around s) n input → F.Ready run acts n (all_effects (s.node n)) →
      NodeOk F (around s) n (react turns run acts n (s.node n) input)
  react-ok s run acts n input inv may ready = turned (around s) run acts n (s.node n) (turns run acts n (all_effects (s.node n)) (s.node n).mind input) (inv.nodes n) (turn-gives s run acts n input inv may ready)

  -- ---- one node changed: its durable log grew by `late`, and `new` messages left it

  changed : (s : Soft) (n : NodeId) (y : SoftNode) (late : List Effect) (ever new : List Post) → Inv F s → NodeOk F (around s) n y →
      Grew (F.Fits n) (s.node n).past late → y.past ≡ late ++ (s.node n).past → ever ≡ s.ever ++ new →
      Every (SentOnce F s.ever (λ k. (put n y s.node k).past) s.olds) new → Inv F (record { node = put n y s.node; olds = s.olds; ever = ever; ticks = s.ticks })
  changed s n y late ever new inv ok grew own sent news =
      let v : Soft = record { node = put n y s.node; olds = s.olds; ever = ever; ticks = s.ticks } in
      let l : Later (around s) (around v) = record {
        more = new;
        ever = sent;
        homes = λ t d. put-all (λ k z. Has (effect.Decide t d) (s.node k).past → Has (effect.Decide t d) z.past) n y s.node
            (λ c. subst (Has (effect.Decide t d)) (sym own) (has-right late (s.node n).past (effect.Decide t d) c))
            (λ k c. c) (repository t.home);
        ticks = λ t c. c;
      } in
      let old : (p : Post) → SentOnce F s.ever (λ k. (s.node k).past) s.olds p → SentOnce F s.ever (λ k. (put n y s.node k).past) s.olds p =
      λ p. put-all (λ k z. SomeOf (λ g. F.PostOk s.ever k g (record { to = p.to; message = p.message })) ((s.node k).past ∷ s.olds k) →
      SomeOf (λ g. F.PostOk s.ever k g (record { to = p.to; message = p.message })) (z.past ∷ s.olds k)) n y s.node
      (λ q. or-left (λ c. subst (λ g. F.PostOk s.ever n g (record { to = p.to; message = p.message })) (sym own)
      (post-grown s.ever n (record { to = p.to; message = p.message }) (s.node n).past late grew (inv.nodes n).tidy c)) q)
      (λ k q. q) p.from in
      record {
        nodes = put-all (λ k z. NodeOk F (around v) k z) n y s.node (node-later (around s) (around v) l n y ok) (λ k. node-later (around s) (around v) l k (s.node k) (inv.nodes k));
        sent = subst (λ e. Every (SentOnce F e (λ k. (put n y s.node k).past) s.olds) e) (sym sent)
            (every-map (SentOnce F s.ever (λ k. (put n y s.node k).past) s.olds) (SentOnce F (s.ever ++ new) (λ k. (put n y s.node k).past) s.olds)
            (λ p q. more-sent s.ever new (λ k. (put n y s.node k).past) s.olds p q)
            (s.ever ++ new)
            (every-append (SentOnce F s.ever (λ k. (put n y s.node k).past) s.olds) s.ever new
            (every-map (SentOnce F s.ever (λ k. (s.node k).past) s.olds) (SentOnce F s.ever (λ k. (put n y s.node k).past) s.olds) old s.ever inv.sent)
            news));
        older = λ k. old-later (around s) (around v) l k (s.olds k) (inv.older k);
        lineage = put-all (λ k z. Lineage F k (s.olds k) z.past) n y s.node
            (subst (Lineage F n (s.olds n)) (sym own) (lineage-on n (s.olds n) (s.node n).past late (inv.lineage n) grew)) inv.lineage;
      }

  -- a node's durable log was replaced by what a retirement leaves of it
  retired : (s : Soft) (n : NodeId) (new : List Effect) → Inv F s → F.Retires n (s.node n).past new → Inv F (happens turns s (Retire n new))
  retired s n new inv retires =
      let v : Soft = happens turns s (Retire n new) in
      let gone : List Effect = (s.node n).past in
      let l : Later (around s) (around v) = record {
        more = [];
        ever = sym (append-nil s.ever);
        homes = λ t d. put-all (λ k z. Has (effect.Decide t d) (s.node k).past → Has (effect.Decide t d) z.past) n (opened_soft new 0) s.node
            (λ c. laws.retired_decided n gone new retires t d c) (λ k c. c) (repository t.home);
        ticks = λ t c. c;
      } in
      record {
        nodes = put-all (λ k z. NodeOk F (around v) k z) n (opened_soft new 0) s.node
            (record {
              tidy = laws.retired_tidy n gone new retires (inv.nodes n).tidy;
              grew = tt;
              proofs = each-map (F.Proof (around s) n) (F.Proof (around v) n) (λ below f. laws.later (around s) (around v) n below f l) new
                  (laws.retired_proofs (around s) n gone new retires (each_below (F.Proof (around s) n) gone (s.node n).added (inv.nodes n).proofs));
              mind_ok = laws.opened s.ever n 0;
              outs = tt;
            })
            (λ k. node-later (around s) (around v) l k (s.node k) (inv.nodes k));
        sent = every-map (SentOnce F s.ever (λ k. (s.node k).past) s.olds) (SentOnce F s.ever (λ k. (v.node k).past) v.olds)
            (λ p. put-both (λ k z o. SomeOf (λ g. F.PostOk s.ever k g (record { to = p.to; message = p.message })) ((s.node k).past ∷ s.olds k) →
            SomeOf (λ g. F.PostOk s.ever k g (record { to = p.to; message = p.message })) (z.past ∷ o)) n (opened_soft new 0) s.node (gone ∷ s.olds n) s.olds
            (λ q. inr q) (λ k q. q) p.from) s.ever inv.sent;
        older = put-all (λ k o. Every (OldOk F (around v) k) o) n (gone ∷ s.olds n) s.olds
            (old-later (around s) (around v) l n (gone ∷ s.olds n) (((inv.nodes n).tidy, each_below (F.Proof (around s) n) gone (s.node n).added (inv.nodes n).proofs), inv.older n))
            (λ k. old-later (around s) (around v) l k (s.olds k) (inv.older k));
        lineage = put-both (λ k z o. Lineage F k o z.past) n (opened_soft new 0) s.node (gone ∷ s.olds n) s.olds
            (inv.lineage n, (new, retires, record { early = []; is = refl; grew = tt })) inv.lineage;
      }

  gate-ok : (w : Around) (n : NodeId) (x : SoftNode) → NodeOk F w n x → NodeOk F w n (gate x)
  gate-ok w n x h = record { tidy = tidy-grown n x.past x.added h.grew h.tidy; grew = tt; proofs = h.proofs; mind_ok = h.mind_ok; outs = tt }

  crash-ok : (w : Around) (n : NodeId) (kept start : ℕ) (x : SoftNode) → NodeOk F w n x → NodeOk F w n (crash kept start x)
  crash-ok w n kept start x h = record {
    tidy = tidy-grown n x.past (keep kept x.added) (grew_drop (F.Fits n) x.past (length x.added - kept) x.added h.grew) h.tidy;
    grew = tt;
    proofs = each-drop (F.Proof w n) x.past (length x.added - kept) x.added h.proofs;
    mind_ok = laws.opened w.ever n start;
    outs = tt;
  }

  -- what leaves at a gate has its fact at the new durable log
  gate-news : (s : Soft) (n : NodeId) (which : Out → Bool) → Inv F s → Every (SentOnce F s.ever (λ k. (put n (gate (s.node n)) s.node k).past) s.olds) (posts n (filter which (s.node n).outs))
  gate-news s n which inv =
      let y : SoftNode = gate (s.node n) in
      let At : Post → Type 0 = SentOnce F s.ever (λ k. (put n y s.node k).past) s.olds in
      every-of-map At (post n) (filter which (s.node n).outs)
      (every-map (F.PostOk s.ever n (all_effects (s.node n))) (λ out. At (post n out))
      (λ out p. inl (subst (λ (z : SoftNode). F.PostOk s.ever n z.past (record { to = out.to; message = out.message })) (sym (put-here n y s.node)) p))
      (filter which (s.node n).outs)
      (every-filter (F.PostOk s.ever n (all_effects (s.node n))) which (s.node n).outs (inv.nodes n).outs))

  inv-tick : (s : Soft) (t : ℕ) → Inv F s → Inv F (record { node = s.node; olds = s.olds; ever = s.ever; ticks = t ∷ s.ticks })
  inv-tick s t inv =
      let v : Soft = record { node = s.node; olds = s.olds; ever = s.ever; ticks = t ∷ s.ticks } in
      let l : Later (around s) (around v) = record { more = []; ever = sym (append-nil s.ever); homes = λ x d c. c; ticks = λ x c. inr c } in
      record { nodes = λ k. node-later (around s) (around v) l k (s.node k) (inv.nodes k); sent = inv.sent; older = λ k. old-later (around s) (around v) l k (s.olds k) (inv.older k); lineage = inv.lineage }

  -- ---- one event, and all

  started : (logs : NodeId → List Effect) → May F nothing (Start logs) → Inv F (happens turns nothing (Start logs))
  started logs may = record {
    nodes = λ n. record { tidy = (may n).0; grew = tt; proofs = (may n).1; mind_ok = laws.opened [] n 0; outs = tt };
    sent = tt;
    older = λ n. tt;
    lineage = λ n. (logs n, (may n).2, record { early = []; is = refl; grew = tt });
  }

  inv-nothing : ((n : NodeId) → F.Tidy n [] × F.Begins n []) → Inv F nothing
  inv-nothing empty = record {
    nodes = λ n. record { tidy = (empty n).0; grew = tt; proofs = tt; mind_ok = laws.opened [] n 0; outs = tt };
    sent = tt;
    older = λ n. tt;
    lineage = λ n. ([], (empty n).1, record { early = []; is = refl; grew = tt });
  }

  -- what always holds, holds in every world that events reach
  pub inv-reached : (es : List SoftEvent) → Mays F turns es → Inv F (happened turns es)
  inv-reached [] may = inv-nothing may
  inv-reached (Start logs ∷ es) may = started logs may
  inv-reached (React n run acts input ∷ es) may =
      let s : Soft = happened turns es in
      let inv : Inv F (happened turns es) = inv-reached es may.0 in
      changed s n (react turns run acts n (s.node n) input) [] s.ever [] inv (react-ok s run acts n input inv may.1.0 may.1.1) tt refl (sym (append-nil s.ever)) tt
  inv-reached (Gate n which ∷ es) may =
      let s : Soft = happened turns es in
      let inv : Inv F (happened turns es) = inv-reached es may in
      changed s n (gate (s.node n)) (s.node n).added (s.ever ++ posts n (filter which (s.node n).outs)) (posts n (filter which (s.node n).outs)) inv
      (gate-ok (around s) n (s.node n) (inv.nodes n)) (inv.nodes n).grew refl refl (gate-news s n which inv)
  inv-reached (Crash n kept start ∷ es) may =
      let s : Soft = happened turns es in
      let inv : Inv F (happened turns es) = inv-reached es may in
      changed s n (crash kept start (s.node n)) (keep kept (s.node n).added) s.ever [] inv (crash-ok (around s) n kept start (s.node n) (inv.nodes n))
      (grew_drop (F.Fits n) (s.node n).past (length (s.node n).added - kept) (s.node n).added (inv.nodes n).grew) refl (sym (append-nil s.ever)) tt
  inv-reached (Tick t ∷ es) may = inv-tick (happened turns es) t (inv-reached es may)
  inv-reached (Retire n new ∷ es) may = retired (happened turns es) n new (inv-reached es may.0) may.1
