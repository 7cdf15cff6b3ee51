-- Where a walk begins, and what is read off its end.
use Rattle.trace_logs.proofs.Names.{get_or, take_more, Every, NodeId, Entry, Opened, Base, World, start_world, opened_life, walk, step, ReplayedNode, Replay, all_posted, Lives, IsOnce, AreAt, Apart, Shows, nodes_of, is_among, gated_logs, ◌≡◌, ◌<◌, ◌≤◌, ◌+◌, ℕ, ◌++◌, take, length, List, [], ◌∷◌, map, refl, sym, ap, subst, ◌∙◌, None, take_all, logs_in, every-append, walk-more}
use Rattle.trace_logs.proofs.PlaceLemmas.{once-apart, at-more, at-nodes, at-start, among-opened}

-- one node more
pub replayed-more : (b : Base) (start : ℕ) (opened : List Opened) (i : ℕ) (o : Opened) (s : ReplayedNode) (old new : List ReplayedNode) → i < length opened → o ≡ get_or opened i o → AreAt b start (take i opened) old →
    s.node ≡ o.node → Lives b s (opened_life start o.effects) → new ≡ old ++ s ∷ [] → AreAt b start (take (i + 1) opened) new
replayed-more b start opened i o s old new lt at h e l n =
    subst (λ z. AreAt b start z new) (ap (λ x. take i opened ++ x ∷ []) at ∙ sym (take_more opened i o lt)) (subst (AreAt b start (take i opened ++ o ∷ [])) (sym n) (at-more b start (take i opened) old o s h e l))

pub every-more : {X : Type 0} (P : X → Type 0) (x : X) (old new : List X) → Every P old → P x → new ≡ old ++ x ∷ [] → Every P new
every-more P x old new h p n = subst (Every P) (sym n) (every-append P old (x ∷ []) h (p, tt))

pub starts : (b : Base) (r : Replay) → IsOnce b.opened → b.run ≡ r.run → b.start ≡ r.start → AreAt b b.start b.opened r.replayed.items → r.letters.items ≡ [] → r.last ≡ None → Shows b (start_world b) r
starts b r once run start at letters last =
    let nodes : nodes_of r.replayed.items ≡ map (λ (o : Opened). o.node) b.opened = at-nodes b b.start b.opened r.replayed.items at in
    record {
      run = run;
      start = start;
      nodes = nodes;
      apart = subst Apart (sym nodes) (once-apart b.opened once);
      replayed = at-start b b.start b.opened r.replayed.items (once-apart b.opened once) at;
      known = λ n. among-opened b.opened n ∙ ap (λ ns. is_among ns n) (sym nodes);
      sent = ap all_posted letters;
      last = last;
    }

-- the node with its durable log in this world
abbrev in_world : World → NodeId → Opened
in_world w n = record { node = n; effects = (w.life n).gated }

replayed-logs : (b : Base) (w : World) (replayed : List ReplayedNode) → Every (λ (s : ReplayedNode). Lives b s (w.life s.node)) replayed → gated_logs replayed ≡ map (in_world w) (nodes_of replayed)
replayed-logs b w [] h = refl
replayed-logs b w (s ∷ ss) h = λ j. record { node = s.node; effects = h.0.gated j } ∷ replayed-logs b w ss h.1 j

opened-logs : (w : World) (opened : List Opened) → map (in_world w) (map (λ (o : Opened). o.node) opened) ≡ logs_in w opened
opened-logs w [] = refl
opened-logs w (o ∷ os) = ap (λ z. in_world w o.node ∷ z) (opened-logs w os)

pub ends : (b : Base) (w : World) (r : Replay) → Shows b w r → gated_logs r.replayed.items ≡ logs_in w b.opened
ends b w r h = replayed-logs b w r.replayed.items h.replayed ∙ ap (map (in_world w)) h.nodes ∙ opened-logs w b.opened

-- ---- on the way

-- one entry more
pub walk-on : (b : Base) (es : List Entry) (i : ℕ) (e : Entry) (r : Replay) → i < length es → e ≡ get_or es i e → Shows b (step b (walk b (take i es)) e) r → Shows b (walk b (take (i + 1) es)) r
walk-on b es i e r lt at h = subst (λ w. Shows b w r) (sym (ap (walk b) (take_more es i e lt ∙ ap (λ x. take i es ++ x ∷ []) (sym at)) ∙ walk-more b (take i es) e)) h

-- all entries
pub walk-end : (b : Base) (es : List Entry) (i : ℕ) (r : Replay) → length es ≤ i → Shows b (walk b (take i es)) r → gated_logs r.replayed.items ≡ logs_in (walk b es) b.opened
walk-end b es i r lt h = ends b (walk b es) r (subst (λ z. Shows b (walk b z) r) (take_all i es lt) h)
