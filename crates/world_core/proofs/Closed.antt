-- Where nothing is due at a node, nothing is open.
use Rattle.world_core.proofs.Names.{NodeId, NodeKind, Repository, Broker, StampParts, Entry, Take, Go, Learn, Hear, Gate, Crash, Down, Tick, Given, nothing_given, gives, kind_gives, Going, Learning, Base, Flags, Life, World, names, all_effects, after_input, with_given, lives_on, flagged, step, start_world, walk_from, walk, ◌≡◌, ℕ, Bool, true, false, ◌&&◌, List, [], ◌∷◌, ◌++◌, if◌then◌else◌, refl, sym, ap, subst, ◌∙◌, Option, Some, None, append-nil}

-- no effect and no message waits for a gate
abbrev pub IsClosed : Life → Type 0
IsClosed l = (l.fresh ≡ []) × (l.outs ≡ [])

-- where nothing is due
abbrev pub ClosesWith : Flags → Life → Type 0
ClosesWith f l = f.due ≡ false → IsClosed l

-- an input that gives nothing opens nothing
given-nothing : (l : Life) (g : Given) → g ≡ nothing_given l.mind → IsClosed l → IsClosed (with_given l g)
given-nothing l g e h = (ap (λ (x : Given). l.fresh ++ x.effects) e ∙ append-nil l.fresh ∙ h.0, ap (λ (x : Given). l.outs ++ x.outs) e ∙ append-nil l.outs ∙ h.1)

module _ (b : Base) where
  repository-goes : (n : NodeId) (l : Life) → n.kind ≡ Repository → gives b.script b.run b.acts n (all_effects l) l.mind Going ≡ nothing_given l.mind
  unfolding gives
  repository-goes n l e = ap (λ (k : NodeKind). kind_gives b.script b.run b.acts k n.number (all_effects l) l.mind Going) e

  broker-learns : (n : NodeId) (l : Life) (s : StampParts) (c : Bool) → n.kind ≡ Broker → gives b.script b.run b.acts n (all_effects l) l.mind (Learning s c) ≡ nothing_given l.mind
  unfolding gives
  broker-learns n l s c e = ap (λ (k : NodeKind). kind_gives b.script b.run b.acts k n.number (all_effects l) l.mind (Learning s c)) e

  -- one entry of the node's own
  goes-closed : (n : NodeId) (k : NodeKind) (f : Flags) (l : Life) (node : NodeId) → n.kind ≡ k → ClosesWith f l → ClosesWith (flagged None k f (Go node)) (after_input b n l Going)
  goes-closed n Repository f l node e h = λ shut. given-nothing l (gives b.script b.run b.acts n (all_effects l) l.mind Going) (repository-goes n l e) (h shut)
  goes-closed n Broker f l node e h = λ shut. absurd (let k : true ≡ false = shut in cc k)

  learns-closed : (n : NodeId) (k : NodeKind) (f : Flags) (l : Life) (node : NodeId) (s : StampParts) (c : Bool) → n.kind ≡ k → ClosesWith f l
      → ClosesWith (flagged None k f (Learn node s c)) (after_input b n l (Learning s c))
  learns-closed n Repository f l node s c e h = λ shut. absurd (let k : true ≡ false = shut in cc k)
  learns-closed n Broker f l node s c e h = λ shut. given-nothing l (gives b.script b.run b.acts n (all_effects l) l.mind (Learning s c)) (broker-learns n l s c e) (h shut)

  own-closed : (w : World) (e : Entry) (n : NodeId) → ClosesWith (w.flags n) (w.life n) → ClosesWith (flagged w.last n.kind (w.flags n) e) (lives_on b w n (w.life n) e)
  own-closed w (Take node number) n h = λ shut. absurd (let k : true ≡ false = shut in cc k)
  own-closed w (Go node) n h = goes-closed n n.kind (w.flags n) (w.life n) node refl h
  own-closed w (Learn node s c) n h = learns-closed n n.kind (w.flags n) (w.life n) node s c refl h
  own-closed w (Hear node) n h = hears-closed w.last refl
    where
      hears-closed : (o : Option ℕ) → w.last ≡ o → ClosesWith (flagged w.last n.kind (w.flags n) (Hear node)) (lives_on b w n (w.life n) (Hear node))
      hears-closed None e = subst (λ (o : Option ℕ). ClosesWith (flagged o n.kind (w.flags n) (Hear node)) (lives_on b (record w { last = o }) n (w.life n) (Hear node))) (sym e) h
      hears-closed (Some m) e = λ shut. absurd (let k : true ≡ false = subst (λ (o : Option ℕ). (flagged o n.kind (w.flags n) (Hear node)).due ≡ false) e shut in cc k)
  own-closed w (Gate node) n h = λ shut. (refl, refl)
  own-closed w (Crash node kept) n h = λ shut. (refl, refl)
  own-closed w (Down node cause) n h = h
  own-closed w (Tick moment) n h = h

  step-closed : (w : World) (e : Entry) (n : NodeId) → ClosesWith (w.flags n) (w.life n) → ClosesWith ((step b w e).flags n) ((step b w e).life n)
  step-closed w e n h = go (names n e && (w.flags n).known)
    where
      go : (t : Bool) → ClosesWith (if t then flagged w.last n.kind (w.flags n) e else w.flags n) (if t then lives_on b w n (w.life n) e else w.life n)
      go true = own-closed w e n h
      go false = h

  walk-closed : (w : World) (es : List Entry) (n : NodeId) → ClosesWith (w.flags n) (w.life n) → ClosesWith ((walk_from b w es).flags n) ((walk_from b w es).life n)
  unfolding walk_from
  walk-closed w [] n h = h
  walk-closed w (e ∷ es) n h = walk-closed (step b w e) es n (step-closed w e n h)

  pub closed : (es : List Entry) (n : NodeId) → ClosesWith ((walk b es).flags n) ((walk b es).life n)
  closed es n = walk-closed (start_world b) es n (λ shut. (refl, refl))
