-- One entry of a walk, over what the code keeps of the nodes.
use Rattle.trace_logs.proofs.Names.{get_or, set, filter, option_map, map-append, Every, NodeId, NodeKind, Repository, Broker, Post, posts, same_node, same_is, same_node-refl, Entry, Take, Go, Learn, Hear, Gate, Crash, Down, Tick, leaves, Taking, Base, Life, Flags, Sending, World, names, step, after_input, took, lives_on, sent_by, all_effects, numbered, last_after, SentMessage, ReplayedNode, Replay, posted, all_posted, Lives, IsAbsent, Apart, Shows, nodes_of, is_among, ◌≡◌, ◌<◌, ℕ, zero, suc, Bool, true, false, ◌&&◌, List, [], ◌∷◌, ◌++◌, length, map, refl, sym, ap, subst, ◌∙◌, Option, Some, None, if◌then◌else◌, flagged, went, learned, has_heard, leaving, step-other}
use Rattle.std.proofs.lemmas.Option.{slice_get-map}
use Rattle.trace_logs.proofs.PlaceLemmas.{same-sym, set-every, nodes-set, among-at, all-change, absent-change, every-at}

-- ---- flags

went-known : (k : NodeKind) (f : Flags) → (went k f).known ≡ f.known
went-known Repository f = refl
went-known Broker f = refl

learned-known : (k : NodeKind) (f : Flags) → (learned k f).known ≡ f.known
learned-known Repository f = refl
learned-known Broker f = refl

heard-known : (last : Option ℕ) (f : Flags) → (has_heard last f).known ≡ f.known
heard-known None f = refl
heard-known (Some moment) f = refl

flagged-known : (last : Option ℕ) (k : NodeKind) (f : Flags) (e : Entry) → (flagged last k f e).known ≡ f.known
flagged-known last k f (Take n number) = refl
flagged-known last k f (Go n) = went-known k f
flagged-known last k f (Learn n stamp committed) = learned-known k f
flagged-known last k f (Hear n) = heard-known last f
flagged-known last k f (Gate n) = refl
flagged-known last k f (Crash n kept) = refl
flagged-known last k f (Down n cause) = refl
flagged-known last k f (Tick moment) = refl

step-known : (b : Base) (w : World) (e : Entry) (n : NodeId) → ((step b w e).flags n).known ≡ (w.flags n).known
step-known b w e n = go (names n e && (w.flags n).known)
  where
    go : (t : Bool) → (if t then flagged w.last n.kind (w.flags n) e else w.flags n).known ≡ (w.flags n).known
    go true = flagged-known w.last n.kind (w.flags n) e
    go false = refl

-- ---- lives

-- a node that was opened does what its entry says
own-step : (b : Base) (w : World) (e : Entry) (n : NodeId) → names n e ≡ true → (w.flags n).known ≡ true → (step b w e).life n ≡ lives_on b w n (w.life n) e
own-step b w e n h k = ap (λ t. if t && (w.flags n).known then lives_on b w n (w.life n) e else w.life n) h ∙ ap (λ t. if t then lives_on b w n (w.life n) e else w.life n) k

-- an entry that leaves its own node's life leaves all
still-step : (b : Base) (w : World) (e : Entry) → ((n : NodeId) → lives_on b w n (w.life n) e ≡ w.life n) → (n : NodeId) → (step b w e).life n ≡ w.life n
still-step b w e h n = go (names n e && (w.flags n).known)
  where
    go : (t : Bool) → (if t then lives_on b w n (w.life n) e else w.life n) ≡ w.life n
    go true = h n
    go false = refl

-- ---- the nodes after an entry

module _ (b : Base) (w : World) (e : Entry) where
  abbrev LiveNow : ReplayedNode → Type 0
  LiveNow s = Lives b s (w.life s.node)

  abbrev LiveThen : ReplayedNode → Type 0
  LiveThen s = Lives b s ((step b w e).life s.node)

  shows-step : (r q : Replay) → Shows b w r → q.run ≡ r.run → q.start ≡ r.start → nodes_of q.replayed.items ≡ nodes_of r.replayed.items → Every LiveThen q.replayed.items →
      all_posted q.letters.items ≡ sent_by (step b w e) → q.last ≡ last_after w.last e → Shows b (step b w e) q
  shows-step r q h run start nodes replayed sent last = record {
    run = h.run ∙ sym run;
    start = h.start ∙ sym start;
    nodes = nodes ∙ h.nodes;
    apart = subst Apart (sym nodes) h.apart;
    replayed = replayed;
    known = λ n. step-known b w e n ∙ h.known n ∙ ap (λ ns. is_among ns n) (sym nodes);
    sent = sent;
    last = last;
  }

  changed : (r q : Replay) (i : ℕ) (t d : ReplayedNode) (n : NodeId) → Shows b w r → ((k : NodeId) → names k e ≡ same_node n k) → i < length r.replayed.items → same_node (get_or r.replayed.items i d).node n ≡ true →
      t.node ≡ (get_or r.replayed.items i d).node → ((l : Life) → Lives b (get_or r.replayed.items i d) l → Lives b t (lives_on b w (get_or r.replayed.items i d).node l e)) →
      q.run ≡ r.run → q.start ≡ r.start → q.replayed.items ≡ set r.replayed.items i t → all_posted q.letters.items ≡ sent_by (step b w e) → q.last ≡ last_after w.last e → Shows b (step b w e) q
  changed r q i t d n h own l at node lives run start replayed sent last =
      shows-step r q h run start (ap nodes_of replayed ∙ nodes-set r.replayed.items i t d node)
      (subst (Every LiveThen) (sym replayed) (set-every LiveNow LiveThen r.replayed.items i t d l h.apart other mine h.replayed)) sent last
    where
      here : n ≡ (get_or r.replayed.items i d).node
      here = sym (same_is (get_or r.replayed.items i d).node n at)

      other : (s : ReplayedNode) → same_node (get_or r.replayed.items i d).node s.node ≡ false → LiveNow s → LiveThen s
      other s apart x = subst (Lives b s) (sym (step-other b w e s.node (own s.node ∙ ap (λ z. same_node z s.node) here ∙ apart))) x

      after : (step b w e).life (get_or r.replayed.items i d).node ≡ lives_on b w (get_or r.replayed.items i d).node (w.life (get_or r.replayed.items i d).node) e
      after = own-step b w e (get_or r.replayed.items i d).node (own (get_or r.replayed.items i d).node ∙ ap (λ z. same_node z (get_or r.replayed.items i d).node) here ∙ same_node-refl (get_or r.replayed.items i d).node)
          (h.known (get_or r.replayed.items i d).node ∙ among-at r.replayed.items i d l)

      mine : LiveThen t
      mine = subst (λ z. Lives b t ((step b w e).life z)) (sym node) (subst (Lives b t) (sym after) (lives (w.life (get_or r.replayed.items i d).node) (every-at LiveNow r.replayed.items i d l h.replayed)))

  -- the node of the entry, at this place, does what it says
  pub moved : (r q : Replay) (i : ℕ) (s t : ReplayedNode) (n : NodeId) → Shows b w r → ((k : NodeId) → names k e ≡ same_node n k) → (i < length r.replayed.items) × ((d : ReplayedNode) → same_node (get_or r.replayed.items i d).node n ≡ true) →
      s ≡ get_or r.replayed.items i s → t.node ≡ s.node → ((l : Life) → Lives b s l → Lives b t (lives_on b w s.node l e)) →
      q.run ≡ r.run → q.start ≡ r.start → q.replayed.items ≡ set r.replayed.items i t → all_posted q.letters.items ≡ sent_by (step b w e) → q.last ≡ last_after w.last e → Shows b (step b w e) q
  moved r q i s t n h own at here node lives run start replayed sent last =
      changed r q i t s n h own at.0 (at.1 s) (node ∙ ap (λ z. z.node) here) (subst (λ z. (l : Life) → Lives b z l → Lives b t (lives_on b w z.node l e)) here lives) run start replayed sent last

  -- an entry that leaves its own node's life leaves all
  pub still : (r q : Replay) → Shows b w r → ((n : NodeId) → lives_on b w n (w.life n) e ≡ w.life n) → q.run ≡ r.run → q.start ≡ r.start → q.replayed.items ≡ r.replayed.items →
      all_posted q.letters.items ≡ sent_by (step b w e) → q.last ≡ last_after w.last e → Shows b (step b w e) q
  still r q h same run start replayed sent last = shows-step r q h run start (ap nodes_of replayed)
      (subst (Every LiveThen) (sym replayed) (all-change LiveNow LiveThen r.replayed.items (λ s x. subst (Lives b s) (sym (still-step b w e same s.node)) x) h.replayed)) sent last

  -- an entry of a node that wasn't opened gives nothing
  pub absent : (r : Replay) (n : NodeId) → Shows b w r → ((k : NodeId) → names k e ≡ same_node n k) → IsAbsent n r.replayed.items → sent_by (step b w e) ≡ sent_by w → w.last ≡ last_after w.last e → Shows b (step b w e) r
  absent r n h own a sent last = shows-step r r h refl refl refl (absent-change LiveNow LiveThen n r.replayed.items a other h.replayed) (h.sent ∙ sym sent) (h.last ∙ last)
    where
      other : (s : ReplayedNode) → same_node s.node n ≡ false → LiveNow s → LiveThen s
      other s apart x = subst (Lives b s) (sym (step-other b w e s.node (own s.node ∙ same-sym n s.node ∙ apart))) x

-- ---- messages

posts-of-sendings : (ticks : ℕ) (ps : List Post) → map (λ (s : Sending). s.post) (map (λ (p : Post). record { post = p; ticks = ticks }) ps) ≡ ps
posts-of-sendings ticks [] = refl
posts-of-sendings ticks (p ∷ ps) = ap (λ z. p ∷ z) (posts-of-sendings ticks ps)

pub sent-gate : (b : Base) (w : World) (n : NodeId) → sent_by (step b w (Gate n)) ≡ sent_by w ++ leaving w n
sent-gate b w n = map-append (λ (s : Sending). s.post) w.sendings (map (λ (p : Post). record { post = p; ticks = w.ticks }) (leaving w n)) ∙ ap (λ z. sent_by w ++ z) (posts-of-sendings w.ticks (leaving w n))

pub leaving-known : (w : World) (n : NodeId) → (w.flags n).known ≡ true → leaving w n ≡ posts n (filter (leaves (all_effects (w.life n))) (w.life n).outs)
leaving-known w n h = ap (λ t. if t then posts n (filter (leaves (all_effects (w.life n))) (w.life n).outs) else []) h

pub leaving-unknown : (w : World) (n : NodeId) → (w.flags n).known ≡ false → leaving w n ≡ []
leaving-unknown w n h = ap (λ t. if t then posts n (filter (leaves (all_effects (w.life n))) (w.life n).outs) else []) h

numbered-map : {X Y : Type 0} (f : X → Y) (xs : List X) (k : ℕ) → numbered (map f xs) k ≡ option_map f (numbered xs k)
numbered-map f xs zero = refl
numbered-map f xs (suc k) = slice_get-map f xs k

module _ (b : Base) (n : NodeId) (l : Life) where
  abbrev pub took_post : Option Post → Life
  took_post None = l
  took_post (Some p) = after_input b n l (Taking p.from p.message)

  took-is : (s : Option Sending) → took b n l s ≡ took_post (option_map (λ (s : Sending). s.post) s)
  took-is None = refl
  took-is (Some s) = refl

  -- what a number gives, by the letters
  pub took-letter : (letters : List SentMessage) (sendings : List Sending) (k : ℕ) → all_posted letters ≡ map (λ (s : Sending). s.post) sendings →
      took b n l (numbered sendings k) ≡ took_post (option_map posted (numbered letters k))
  took-letter letters sendings k h = took-is (numbered sendings k) ∙ ap took_post (sym (numbered-map (λ (s : Sending). s.post) sendings k) ∙ ap (λ ps. numbered ps k) (sym h) ∙ numbered-map posted letters k)
