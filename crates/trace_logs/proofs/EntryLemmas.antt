-- What the code makes of an entry is what the walk makes of it.
use Rattle.trace_logs.proofs.Names.{OnOk, filter, option_map, get_or, set, append-nil, NodeId, posts, same_node, same_is, Entry, Gate, leaves, Taking, Hearing, Base, Life, World, names, step, after_input, took, lives_on, sent_by, all_effects, numbered, last_after, SentMessage, ReplayedNode, Replay, posted, all_posted, AreLetters, Lives, IsAbsent, Shows, nodes_of, is_among, ◌≡◌, ◌<◌, ℕ, zero, suc, true, List, [], ◌∷◌, ◌++◌, length, sym, ap, subst, ◌∙◌, Some, None, Result, Ok, Err, slice_get, hears, IsMessage}
use Rattle.trace_logs.proofs.PlaceLemmas.{among-at, among-not, every-at}
use Rattle.trace_logs.proofs.WalkLemmas.{moved, sent-gate, leaving-known, leaving-unknown, took-letter, took_post}

pub always : {T E : Type 0} (x : Result T E) (P : Type 0) → P → OnOk x P
always (Ok y) P h = h
always (Err y) P h = tt

-- the node of the entry, at this place, did what it says
pub moved-ok : {T E : Type 0} (b : Base) (w : World) (e : Entry) (x : Result T E) (r q : Replay) (i : ℕ) (s t : ReplayedNode) (n : NodeId) → Shows b w r → ((k : NodeId) → names k e ≡ same_node n k) →
    (i < length r.replayed.items) × ((d : ReplayedNode) → same_node (get_or r.replayed.items i d).node n ≡ true) → s ≡ get_or r.replayed.items i s → OnOk x (t.node ≡ s.node) →
    ((l : Life) → Lives b s l → OnOk x (Lives b t (lives_on b w s.node l e))) → q.run ≡ r.run → q.start ≡ r.start → q.replayed.items ≡ set r.replayed.items i t →
    OnOk x (all_posted q.letters.items ≡ sent_by (step b w e)) → q.last ≡ last_after w.last e → OnOk x (Shows b (step b w e) q)
moved-ok b w e (Err y) r q i s t n h own at here node lives run start replayed sent last = tt
moved-ok b w e (Ok y) r q i s t n h own at here node lives run start replayed sent last = moved b w e r q i s t n h own at here node lives run start replayed sent last

-- ---- messages that are taken

some-letter : (letters : List SentMessage) (k : ℕ) (x : SentMessage) → AreLetters letters → Some x ≡ slice_get letters k → IsMessage x.out.message
some-letter [] k x h e = absurd (cc e)
some-letter (y ∷ ys) zero x h e = let z : x ≡ y = cc e in subst (λ (l : SentMessage). IsMessage l.out.message) (sym z) h.0
some-letter (y ∷ ys) (suc k) x h e = some-letter ys k x h.1 e

pub letter-in-range : (letters : List SentMessage) (k : ℕ) (x : SentMessage) → AreLetters letters → Some x ≡ numbered letters k → IsMessage x.out.message
letter-in-range letters zero x h e = absurd (cc e)
letter-in-range letters (suc k) x h e = some-letter letters k x h e

pub took-sent : {T E : Type 0} (b : Base) (w : World) (x : Result T E) (n : NodeId) (t : ReplayedNode) (l : Life) (letters : List SentMessage) (a : SentMessage) (k : ℕ) → all_posted letters ≡ sent_by w → Some a ≡ numbered letters k →
    OnOk x (Lives b t (after_input b n l (Taking a.from a.out.message))) → OnOk x (Lives b t (took b n l (numbered w.sendings k)))
took-sent b w x n t l letters a k h e g = subst (λ z. OnOk x (Lives b t z)) (sym (took-letter b n l letters w.sendings k h ∙ ap (λ o. took_post b n l (option_map posted o)) (sym e))) g

pub took-unsent : (b : Base) (w : World) (n : NodeId) (l : Life) (letters : List SentMessage) (k : ℕ) → all_posted letters ≡ sent_by w → None ≡ numbered letters k → took b n l (numbered w.sendings k) ≡ l
took-unsent b w n l letters k h e = took-letter b n l letters w.sendings k h ∙ ap (λ o. took_post b n l (option_map posted o)) (sym e)

-- ---- moments that are heard

pub heard-last : {T E : Type 0} (b : Base) (w : World) (x : Result T E) (n : NodeId) (t : ReplayedNode) (l : Life) (moment : ℕ) → w.last ≡ Some moment → OnOk x (Lives b t (after_input b n l (Hearing moment))) → OnOk x (Lives b t (hears b n l w.last))
heard-last b w x n t l moment e g = subst (λ o. OnOk x (Lives b t (hears b n l o))) (sym e) g

pub heard-nothing : (b : Base) (w : World) (n : NodeId) (l : Life) → w.last ≡ None → hears b n l w.last ≡ l
heard-nothing b w n l e = ap (hears b n l) e

-- ---- messages that leave

pub gate-absent : (b : Base) (w : World) (r : Replay) (n : NodeId) → Shows b w r → IsAbsent n r.replayed.items → sent_by (step b w (Gate n)) ≡ sent_by w
gate-absent b w r n h a = sent-gate b w n ∙ ap (λ z. sent_by w ++ z) (leaving-unknown w n (h.known n ∙ among-not n r.replayed.items a)) ∙ append-nil (sent_by w)

gate-sends : (b : Base) (w : World) (r : Replay) (i : ℕ) (s : ReplayedNode) (n : NodeId) (new : List SentMessage) → Shows b w r → (i < length r.replayed.items) × ((d : ReplayedNode) → same_node (get_or r.replayed.items i d).node n ≡ true) → s ≡ get_or r.replayed.items i s →
    all_posted new ≡ all_posted r.letters.items ++ posts s.node (filter (leaves (all_effects (w.life s.node))) (w.life s.node).outs) → all_posted new ≡ sent_by (step b w (Gate n))
gate-sends b w r i s n new h at here e =
    e ∙ (λ j. h.sent j ++ posts (is j) (filter (leaves (all_effects (w.life (is j)))) (w.life (is j)).outs)) ∙ ap (λ z. sent_by w ++ z) (sym (leaving-known w n known)) ∙ sym (sent-gate b w n)
  where
    is : s.node ≡ n
    is = ap (λ (z : ReplayedNode). z.node) here ∙ same_is (get_or r.replayed.items i s).node n (at.1 s)

    known : (w.flags n).known ≡ true
    known = h.known n ∙ subst (λ m. is_among (nodes_of r.replayed.items) m ≡ true) (same_is (get_or r.replayed.items i s).node n (at.1 s)) (among-at r.replayed.items i s at.0)

pub gate-ok : {T E : Type 0} (b : Base) (w : World) (x : Result T E) (r : Replay) (i : ℕ) (s : ReplayedNode) (n : NodeId) (new : List SentMessage) → Shows b w r → (i < length r.replayed.items) × ((d : ReplayedNode) → same_node (get_or r.replayed.items i d).node n ≡ true) → s ≡ get_or r.replayed.items i s →
    ((l : Life) → Lives b s l → OnOk x (all_posted new ≡ all_posted r.letters.items ++ posts s.node (filter (leaves (all_effects l)) l.outs))) → OnOk x (all_posted new ≡ sent_by (step b w (Gate n)))
gate-ok b w (Err y) r i s n new h at here f = tt
gate-ok b w (Ok y) r i s n new h at here f = gate-sends b w r i s n new h at here (f (w.life s.node) (subst (λ (z : ReplayedNode). Lives b z (w.life z.node)) (sym here) (every-at (λ (z : ReplayedNode). Lives b z (w.life z.node)) r.replayed.items i s at.0 h.replayed)))
