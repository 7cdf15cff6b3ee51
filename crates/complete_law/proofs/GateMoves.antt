-- The entry Gate keeps what always holds.
use Rattle.complete_law.proofs.Names.{Has, has-either, has-right, StampParts, TimeParts, Decision, NodeId, Effect, Message, Out, Post, post, posts, same_node, same_node-refl, HeldRead, Asker, known, waits_for, Heard, Ignored, row, news, stage, repository, broker, desk_at, state, IsRested, leaves, Base, Flags, Life, Sending, World, flagged, gated_life, leaving, lives_on, numbered, sent_by, step, all_effects, MayGate, times_taken, Refines, node_turns, node_facts, sent-gate, Waits, read_to, standing_at, DeskSound, filter-has, ask_of, tell_of, map-has, ◌≡◌, ◌⊎◌, ℕ, suc, ◌≤◌, ◌==◌, Bool, true, false, ◌&&◌, List, [], map, reverse, refl, sym, ◌∙◌, ap, subst, Some, None, if◌then◌else◌, inl, inr, append-nil, arith, reverse-append, filter, step-known, unknown-stays, has-filter, has-map}
use Rattle.effect_form.specs.declared.effects.Effect.TheVariants as effect
use Rattle.world_core.specs.declared.entries.Entry.TheVariants as entry
use Rattle.complete_law.proofs.BrokerEntries.{sound-more}
use Rattle.complete_law.proofs.Frames.{not-same, parted}
use Rattle.complete_law.proofs.GateEntries.{answer-leaves, ask-leaves, at-end, numbered-before, numbered-kept, request-leaves}
use Rattle.complete_law.proofs.Idles.{waits-has}
use Rattle.complete_law.proofs.Places.{log_of, gated_of, held_of, IsBegun, IsDecided, Flying, AskedFor, tasks_of, desk_of, standing_in, Placed, SaidOf, Ended, said-on, CalmWorld, all-off, both-on}

module _ (b : Base) (w : World) (calm : CalmWorld b w) (f : Refines (node_turns b.script) (node_facts b.script) b (λ n. []) (λ n. []) [] (λ t. ⊥) w) (n : NodeId) (may : MayGate w n) where
  abbrev w' : World
  w' = step b w (entry.Gate n)

  mine : (w.flags n).known ≡ true
  mine = sym (calm.ups n) ∙ may.up

  lifes : (m : NodeId) → (w'.life m ≡ w.life m) ⊎ ((m ≡ n) × (w'.life m ≡ gated_life (w.life m)))
  lifes m = elim (parted n m) [
    | inl e ↦ inr (e, both-on (same_node n m) (w.flags m).known (lives_on b w m (w.life m) (entry.Gate n)) (w.life m) (subst (λ z. same_node n z ≡ true) (sym e) (same_node-refl n)) (subst (λ z. (w.flags z).known ≡ true) (sym e) mine))
    | inr ne ↦ inl (all-off (same_node n m) (w.flags m).known (lives_on b w m (w.life m) (entry.Gate n)) (w.life m) (not-same n m ne))
  ]

  log-same : (m : NodeId) → log_of w' m ≡ log_of w m
  log-same m = elim (lifes m) [ inl e ↦ ap (λ (l : Life). reverse (all_effects l)) e | inr e ↦ ap (λ (l : Life). reverse (all_effects l)) e.1 ∙ ap reverse (append-nil (all_effects (w.life m))) ]

  mind-same : (m : NodeId) → (w'.life m).mind ≡ (w.life m).mind
  mind-same m = elim (lifes m) [ inl e ↦ ap (λ (l : Life). l.mind) e | inr e ↦ ap (λ (l : Life). l.mind) e.1 ]

  gated-more : (m : NodeId) (x : Effect) → Has x (gated_of w m) → Has x (gated_of w' m)
  gated-more m x h = elim (lifes m) [
    | inl e ↦ subst (λ (l : Life). Has x (reverse l.gated)) (sym e) h
    | inr e ↦ subst (λ (l : Life). Has x (reverse l.gated)) (sym e.1) (subst (Has x) (sym (reverse-append (w.life m).gated (w.life m).fresh)) (has-right (reverse (w.life m).fresh) (reverse (w.life m).gated) x h))
  ]

  begun-more : (s : StampParts) → IsBegun w s → IsBegun w' s
  begun-more s h = (h.0, gated-more (repository s.home) (effect.Begin s h.0) h.1)

  decided-more : (s : StampParts) → IsDecided w s → IsDecided w' s
  decided-more s h = (h.0, gated-more (repository s.home) (effect.Decide s h.0) h.1)

  -- what leaves was owed
  leaving-is : leaving w n ≡ posts n (filter (leaves (all_effects (w.life n))) (w.life n).outs)
  leaving-is = ap (λ c. if c then posts n (filter (leaves (all_effects (w.life n))) (w.life n).outs) else []) mine

  abbrev added : List Sending
  added = map (λ (p : Post). let s : Sending = record { post = p; ticks = w.ticks } in s) (leaving w n)

  -- what was on its way stays so, where it leaves
  flies : (from : NodeId) (o : Out) → leaves (all_effects (w.life from)) o ≡ true → Flying w from o → Flying w' from o
  flies from o leave (inr (k, s, at, is, none)) = inr (k, s, numbered-kept w.sendings added k s at, is, none)
  flies from o leave (inl h) = elim (lifes from) [ inl e ↦ inl (subst (λ (l : Life). Has o l.outs) (sym e) h) | inr e ↦ inr (sent e.0) ]
    where
      sent : from ≡ n → (k : ℕ) × (s : Sending) × (numbered w'.sendings k ≡ Some s) × (s.post ≡ post from o) × (times_taken w' k ≡ 0)
      sent e =
          let owed : Has o (w.life n).outs = subst (λ z. Has o (w.life z).outs) e h in
          let goes : leaves (all_effects (w.life n)) o ≡ true = subst (λ z. leaves (all_effects (w.life z)) o ≡ true) e leave in
          let out : Has (post n o) (leaving w n) = subst (Has (post n o)) (sym leaving-is) (has-map (post n) (filter (leaves (all_effects (w.life n))) (w.life n).outs) o (has-filter (leaves (all_effects (w.life n))) (w.life n).outs o owed goes)) in
          let x : Sending = record { post = post n o; ticks = w.ticks } in
          let there : Has x added = has-map (λ (p : Post). let s : Sending = record { post = p; ticks = w.ticks } in s) (leaving w n) (post n o) out in
          let k = at-end w.sendings added x there in
          (suc k.0, x, k.1, ap (λ z. post z o) (sym e), calm.untaken (suc k.0) k.2)

  outs-less : (m : NodeId) (o : Out) → Has o (w'.life m).outs → Has o (w.life m).outs
  outs-less m o h = elim (lifes m) [ inl e ↦ subst (λ (l : Life). Has o l.outs) e h | inr e ↦ absurd (subst (λ (l : Life). Has o l.outs) e.1 h) ]

  -- ---- brokers

  for-brokers : (P : ℕ → List Effect → Heard → Type 0) → ((i : ℕ) → P i (log_of w (broker i)) (w.life (broker i)).mind.heard) → (i : ℕ) → P i (log_of w' (broker i)) (w'.life (broker i)).mind.heard
  for-brokers P h i = subst (λ l. P i l (w'.life (broker i)).mind.heard) (sym (log-same (broker i))) (subst (λ m. P i (log_of w (broker i)) m.heard) (sym (mind-same (broker i))) (h i))

  gone-same : (m : NodeId) (t : Bool) → (if t then flagged w.last m.kind (w.flags m) (entry.Gate n) else w.flags m).gone ≡ (w.flags m).gone
  gone-same m true = refl
  gone-same m false = refl

  up-same : (m : NodeId) (t : Bool) → (if t then flagged w.last m.kind (w.flags m) (entry.Gate n) else w.flags m).up ≡ (w.flags m).up
  up-same m true = refl
  up-same m false = refl

  was-gone : (m : NodeId) → (w'.flags m).gone ≡ true → (w.flags m).gone ≡ true
  was-gone m g = sym (gone-same m (same_node n m && (w.flags m).known)) ∙ g

  said-more : (i : ℕ) (m : Message) → SaidOf b w i m → SaidOf b w' i m
  said-more i m k = said-on b w w' i begun-more (λ s. subst (Ended s) (sym (log-same (broker i)))) m k

  said : (i : ℕ) (o : Out) → Has o (w'.life (broker i)).outs ⊎ Has (post (broker i) o) (sent_by w') → SaidOf b w' i o.message
  said i o (inl h) = said-more i o.message (calm.said i o (inl (outs-less (broker i) o h)))
  said i o (inr h) = elim (has-either (sent_by w) (leaving w n) (post (broker i) o) (subst (Has (post (broker i) o)) (sent-gate b w n) h)) [
    | inl a ↦ said-more i o.message (calm.said i o (inr a))
    | inr c ↦ new (map-has (post n) (filter (leaves (all_effects (w.life n))) (w.life n).outs) (post (broker i) o) (subst (Has (post (broker i) o)) leaving-is c))
  ]
    where
      new : ((x : Out) × Has x (filter (leaves (all_effects (w.life n))) (w.life n).outs) × (post n x ≡ post (broker i) o)) → SaidOf b w' i o.message
      new (x, h, e) =
          let at : n ≡ broker i = ap (λ (p : Post). p.from) e in
          let owed : Has x (w.life (broker i)).outs = subst (λ z. Has x (w.life z).outs) at (filter-has (leaves (all_effects (w.life n))) (w.life n).outs x h) in
          subst (SaidOf b w' i) (ap (λ (p : Post). p.message) e) (said-more i x.message (calm.said i x (inl owed)))

  held-more : (i : ℕ) (o : Out) → ((x : TimeParts) × (e : HeldRead) × (o ≡ read_to x e.object) × (e.from ≡ broker i) × Has (x, e) (held_of w e.object.repository)) → (x : TimeParts) × (e : HeldRead) × (o ≡ read_to x e.object) × (e.from ≡ broker i) × Has (x, e) (held_of w' e.object.repository)
  held-more i o k = (k.0, k.1, k.2, k.3, subst (λ m. Has (k.0, k.1) m.hands.held) (sym (mind-same (repository k.1.object.repository))) k.4)

  placed : (i : ℕ) (o : Out) → (w'.flags (broker i)).gone ≡ true → standing_in b w' i ≡ Some o → Placed b w' i o
  placed i o g e = go (calm.placed i o (was-gone (broker i) g) stands)
    where
      stands : standing_in b w i ≡ Some o
      stands = subst (λ l. standing_at b.script i b.run (tasks_of b i) l (w.life (broker i)).mind.heard ≡ Some o) (log-same (broker i))
          (subst (λ m. standing_at b.script i b.run (tasks_of b i) (log_of w' (broker i)) m.heard ≡ Some o) (mind-same (broker i)) e)

      go : Placed b w i o → Placed b w' i o
      go (inl x) = inl (flies (broker i) o (request-leaves (all_effects (w.life (broker i))) (stage b.script b.run (state b.script i b.run (tasks_of b i) (desk_of b w i)) (w.life (broker i)).mind.heard) o stands) x)
      go (inr (inl (from, m, x, h))) = inr (inl (
        from,
        m,
        flies from (record { to = broker i; message = m }) (answer-leaves b.script (stage b.script b.run (state b.script i b.run (tasks_of b i) (desk_of b w i)) (w.life (broker i)).mind.heard) (w.life (broker i)).mind.heard (all_effects (w.life from)) (broker i) m h) x,
        subst (λ l. (row b.script (stage b.script b.run (state b.script i b.run (tasks_of b i) (desk_at l (w'.life (broker i)).mind.heard)) (w'.life (broker i)).mind.heard) (w'.life (broker i)).mind.heard (news m) ≡ Ignored → ⊥)) (sym (log-same (broker i)))
            (subst (λ z. (row b.script (stage b.script b.run (state b.script i b.run (tasks_of b i) (desk_at (log_of w (broker i)) z.heard)) z.heard) z.heard (news m) ≡ Ignored → ⊥)) (sym (mind-same (broker i))) h),
      ))
      go (inr (inr k)) = inr (inr (held-more i o k))

  -- ---- repositories

  waits : (r : ℕ) (e : TimeParts × HeldRead) → Has e (held_of w' r) → Waits (log_of w' (repository r)) e
  waits r e h = subst (λ l. Waits l e) (sym (log-same (repository r))) (calm.waits r e (subst (λ m. Has e m.hands.held) (mind-same (repository r)) h))

  asked : (r : ℕ) (s : StampParts) → waits_for s (held_of w' r) ≡ true → (s.home == r) ≡ false → AskedFor w' r s
  asked r s e q = go (calm.asked r s was q)
    where
      was : waits_for s (held_of w r) ≡ true
      was = subst (λ m. waits_for s m.hands.held ≡ true) (mind-same (repository r)) e

      unknown : known (log_of w (repository r)) s ≡ None
      unknown = let h = waits-has s (held_of w r) was in subst (λ z. known (log_of w (repository r)) z ≡ None) h.2 (calm.waits r h.0 h.1).unknown

      go : AskedFor w r s → AskedFor w' r s
      go (inl x) = inl (flies (repository r) (ask_of s) (ask-leaves (all_effects (w.life (repository r))) s (repository s.home) unknown) x)
      go (inr (inl a)) = inr (inl (subst (λ m. Has (record { repository = r; stamp = s }) m.hands.askers) (sym (mind-same (repository s.home))) a))
      go (inr (inr (c, x))) = inr (inr (c, flies (repository s.home) (tell_of (record { repository = r; stamp = s }) c) refl x))

  askers : (r : ℕ) (a : Asker) → Has a (w'.life (repository r)).mind.hands.askers → (a.stamp.home ≡ r) × ((x : Decision) → Has (effect.Decide a.stamp x) (log_of w' (repository r)) → ⊥)
  askers r a h = let k = calm.askers r a (subst (λ m. Has a m.hands.askers) (mind-same (repository r)) h) in (k.0, λ x i. k.1 x (subst (Has (effect.Decide a.stamp x)) (log-same (repository r)) i))

  life-mine : w'.life n ≡ gated_life (w.life n)
  life-mine = both-on (same_node n n) (w.flags n).known (lives_on b w n (w.life n) (entry.Gate n)) (w.life n) (same_node-refl n) mine

  shut : (m : NodeId) → (w'.flags m).due ≡ false → ((w'.life m).fresh ≡ []) × ((w'.life m).outs ≡ [])
  shut m e = elim (parted n m) [
    | inl q ↦ subst (λ z. ((w'.life z).fresh ≡ []) × ((w'.life z).outs ≡ [])) (sym q) (ap (λ (x : Life). x.fresh) life-mine, ap (λ (x : Life). x.outs) life-mine)
    | inr ne ↦ subst (λ (l : Life). (l.fresh ≡ []) × (l.outs ≡ [])) (sym (all-off (same_node n m) (w.flags m).known (lives_on b w m (w.life m) (entry.Gate n)) (w.life m) (not-same n m ne)))
        (calm.shut m (sym (ap (λ (x : Flags). x.due) (all-off (same_node n m) (w.flags m).known (flagged w.last m.kind (w.flags m) (entry.Gate n)) (w.flags m) (not-same n m ne))) ∙ e))
  ]

  still : (s : Sending) → Has s w'.sendings → s.ticks ≤ w'.ticks
  still s h = elim (has-either w.sendings added s h) [
    | inl a ↦ calm.still s a
    | inr c ↦ let k = map-has (λ (p : Post). let s : Sending = record { post = p; ticks = w.ticks } in s) (leaving w n) s c in subst (λ (x : Sending). x.ticks ≤ w.ticks) k.2 (omega arith)
  ]

  pub gate-calm : CalmWorld b w'
  gate-calm = record {
    ups = λ m. up-same m (same_node n m && (w.flags m).known) ∙ calm.ups m ∙ sym (step-known b w (entry.Gate n) m).0;
    outside = λ m e. let was : (w.flags m).known ≡ false = sym (step-known b w (entry.Gate n) m).0 ∙ e in unknown-stays b w (entry.Gate n) m was ∙ calm.outside m was;
    shut = shut;
    still = still;
    untaken = λ k e. calm.untaken k (numbered-before w.sendings added k e);
    rested = for-brokers (λ i l h. (w'.flags (broker i)).gone ≡ true → IsRested b.script i b.run (tasks_of b i) (desk_at l h)) (λ i g. calm.rested i (was-gone (broker i) g));
    sound = for-brokers (λ i l h. DeskSound b.script i b.run (tasks_of b i) (IsBegun w') (IsDecided w') (desk_at l h))
        (λ i. sound-more b.script i b.run (tasks_of b i) (IsBegun w) (IsDecided w) (IsBegun w') (IsDecided w') begun-more decided-more (w.life (broker i)).mind.heard (state b.script i b.run (tasks_of b i) (desk_of b w i)) (calm.sound i));
    said = said;
    placed = placed;
    waits = waits;
    asked = asked;
    askers = askers;
  }
