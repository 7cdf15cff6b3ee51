-- Nodes that went down: what the entries alone say of them.
use Rattle.std.proofs.lemmas.Bool.{and_from}
use Rattle.run_rounds.proofs.Names.{Every, Has, NodeId, DownCause, same_node, same_is, same_node-refl, Entry, Take, Go, Learn, Hear, Gate, Crash, Down, Tick, Base, World, is_down, names, opened_log, step, walk_from, down_cause, ◌≡◌, ◌⊎◌, ◌∙◌, ◌&&◌, Bool, true, false, List, [], ◌∷◌, Some, is_some, if◌then◌else◌, inl, inr, refl, ap, sym, subst, same_Some, flagged, Meets, Rule}
use Rattle.stream_port.specs.declared.fates.Fate.{Fate}
use Rattle.kill_law.proofs.Steps.{step-known}

-- ---- the first Down of a node

-- an entry is no Down of the node, or its first
pub cause-step : (n : NodeId) (e : Entry) (es : List Entry) → (down_cause n (e ∷ es) ≡ down_cause n es) ⊎ ((node : NodeId) × (cause : DownCause) × (e ≡ Down node cause) × (same_node node n ≡ true) × (down_cause n (e ∷ es) ≡ Some cause))
cause-step n (Down node cause) es = go (same_node node n) refl
  where
    go : (t : Bool) → same_node node n ≡ t
        → (down_cause n (Down node cause ∷ es) ≡ down_cause n es) ⊎ ((m : NodeId) × (c : DownCause) × (Down node cause ≡ Down m c) × (same_node m n ≡ true) × (down_cause n (Down node cause ∷ es) ≡ Some c))
    go true is = inr (node, cause, refl, is, ap (λ (t : Bool). if t then Some cause else down_cause n es) is)
    go false is = inl (ap (λ (t : Bool). if t then Some cause else down_cause n es) is)
cause-step n e es = inl refl

here-told : (n : NodeId) (c : DownCause) (e : Entry) (es : List Entry) → e ≡ Down n c → down_cause n (e ∷ es) ≡ Some c
here-told n c e es is = ap (λ (x : Entry). down_cause n (x ∷ es)) is ∙ ap (λ (t : Bool). if t then Some c else down_cause n es) (same_node-refl n)

-- a node whose Down stands has a cause told
pub told-of : (n : NodeId) (c : DownCause) (es : List Entry) → Has (Down n c) es → (x : DownCause) × (down_cause n es ≡ Some x)
told-of n c [] has = absurd has
told-of n c (e ∷ es) (inl is) = (c, here-told n c e es is)
told-of n c (e ∷ es) (inr later) = go (told-of n c es later) (cause-step n e es)
  where
    go : (x : DownCause) × (down_cause n es ≡ Some x) → (down_cause n (e ∷ es) ≡ down_cause n es) ⊎ ((m : NodeId) × (d : DownCause) × (e ≡ Down m d) × (same_node m n ≡ true) × (down_cause n (e ∷ es) ≡ Some d)) → (x : DownCause) × (down_cause n (e ∷ es) ≡ Some x)
    go rest (inl same) = (rest.0, same ∙ rest.1)
    go rest (inr f) = (f.1, f.4)

-- ---- what is known of flags

module _ (b : Base) where
  pub stays-down : (w : World) (e : Entry) (n : NodeId) → (w.flags n).up ≡ false → ((step b w e).flags n).up ≡ false
  stays-down w e n h = go ((step b w e).flags n).up refl
    where
      go : (t : Bool) → ((step b w e).flags n).up ≡ t → t ≡ false
      go false q = refl
      go true q = let z : true ≡ false = sym ((step-known b w e n).1 q) ∙ h in absurd (cc z)

  down-from : (w : World) (es : List Entry) (n : NodeId) → (w.flags n).up ≡ false → ((walk_from b w es).flags n).up ≡ false
  unfolding walk_from
  down-from w [] n h = h
  down-from w (e ∷ es) n h = down-from (step b w e) es n (stays-down w e n h)

  pub stays-known : (w : World) (e : Entry) (n : NodeId) → (w.flags n).known ≡ true → ((step b w e).flags n).known ≡ true
  stays-known w e n h = (step-known b w e n).0 ∙ h

  pub fell : (w : World) (n node : NodeId) (cause : DownCause) → same_node node n ≡ true → (w.flags n).known ≡ true → ((step b w (Down node cause)).flags n).up ≡ false
  fell w n node cause is known = ap (λ (t : Bool). (if t then flagged w.last n.kind (w.flags n) (Down node cause) else w.flags n).up) (and_from (same_node node n) (w.flags n).known is known)

  fell-by : (w : World) (n node : NodeId) (cause : DownCause) (e : Entry) → e ≡ Down node cause → same_node node n ≡ true → (w.flags n).known ≡ true → ((step b w e).flags n).up ≡ false
  fell-by w n node cause e at is known = subst (λ (x : Entry). ((step b w x).flags n).up ≡ false) (sym at) (fell w n node cause is known)

  -- a node that was opened and has a cause told is down
  pub down-ends : (w : World) (es : List Entry) (n : NodeId) (c : DownCause) → (w.flags n).known ≡ true → down_cause n es ≡ Some c → ((walk_from b w es).flags n).up ≡ false
  unfolding walk_from
  down-ends w [] n c known h = absurd (cc h)
  down-ends w (e ∷ es) n c known h = go (λ same. down-ends (step b w e) es n c (stays-known w e n known) (sym same ∙ h)) (cause-step n e es)
    where
      go : (down_cause n (e ∷ es) ≡ down_cause n es → ((walk_from b (step b w e) es).flags n).up ≡ false) → (down_cause n (e ∷ es) ≡ down_cause n es) ⊎ ((m : NodeId) × (d : DownCause) × (e ≡ Down m d) × (same_node m n ≡ true) × (down_cause n (e ∷ es) ≡ Some d)) → ((walk_from b (step b w e) es).flags n).up ≡ false
      go rest (inl same) = rest same
      go rest (inr f) = down-from (step b w e) es n (fell-by w n f.0 f.1 e f.2 f.3 known)

  -- ---- where nothing but Downs stand

  down-is : (e : Entry) → is_down e ≡ true → (node : NodeId) × (cause : DownCause) × (e ≡ Down node cause)
  down-is (Down node cause) h = (node, cause, refl)
  down-is e h = absurd (cc h)

  due-kept : (w : World) (n node : NodeId) (cause : DownCause) → ((step b w (Down node cause)).flags n).due ≡ (w.flags n).due
  due-kept w n node cause = go (same_node node n && (w.flags n).known)
    where
      go : (t : Bool) → (if t then flagged w.last n.kind (w.flags n) (Down node cause) else w.flags n).due ≡ (w.flags n).due
      go true = refl
      go false = refl

  -- nothing is due
  pub none-due : (w : World) (es : List Entry) (n : NodeId) → Every (λ e. is_down e ≡ true) es → (w.flags n).due ≡ false → ((walk_from b w es).flags n).due ≡ false
  unfolding walk_from
  none-due w [] n downs h = h
  none-due w (e ∷ es) n downs h =
      let f = down-is e downs.0 in
      none-due (step b w e) es n downs.1 (ap (λ (x : Entry). ((step b w x).flags n).due) f.2 ∙ (due-kept w n f.0 f.1 ∙ h))

  -- ---- legal lists

  module _ (fates : List Fate) where
    none-later : (w : World) (es : List Entry) (n : NodeId) (d : DownCause) → (w.flags n).up ≡ false → Meets b fates w es → Has (Down n d) es → ⊥
    unfolding Meets
    none-later w [] n d h meets has = has
    none-later w (e ∷ es) n d h meets (inl is) =
        let r : Rule b fates w (Down n d) = subst (Rule b fates w) is meets.0 in
        let z : true ≡ false = sym r.up ∙ h in absurd (cc z)
    none-later w (e ∷ es) n d h meets (inr later) = none-later (step b w e) es n d (stays-down w e n h) meets.1 later

    -- a node goes down once
    pub one-down : (w : World) (es : List Entry) (n : NodeId) (c d : DownCause) → (w.flags n).known ≡ true → Meets b fates w es → down_cause n es ≡ Some c → Has (Down n d) es → c ≡ d
    unfolding Meets
    one-down w [] n c d known meets h has = absurd has
    one-down w (e ∷ es) n c d known meets h (inl is) = same_Some _ _ (sym h ∙ here-told n d e es is)
    one-down w (e ∷ es) n c d known meets h (inr later) = go (λ same. one-down (step b w e) es n c d (stays-known w e n known) meets.1 (sym same ∙ h) later) (cause-step n e es)
      where
        go : (down_cause n (e ∷ es) ≡ down_cause n es → c ≡ d) → (down_cause n (e ∷ es) ≡ down_cause n es) ⊎ ((m : NodeId) × (x : DownCause) × (e ≡ Down m x) × (same_node m n ≡ true) × (down_cause n (e ∷ es) ≡ Some x)) → c ≡ d
        go rest (inl same) = rest same
        go rest (inr f) = absurd (none-later (step b w e) es n d (fell-by w n f.0 f.1 e f.2 f.3 known) meets.1 later)

    pub up-named : (w : World) (e : Entry) (m : NodeId) → names m e ≡ true → Rule b fates w e → (w.flags m).up ≡ true
    up-named w (Take node number) m h r = subst (λ (x : NodeId). (w.flags x).up ≡ true) (same_is node m h) r.up
    up-named w (Go node) m h r = subst (λ (x : NodeId). (w.flags x).up ≡ true) (same_is node m h) r.up
    up-named w (Learn node stamp committed) m h r = subst (λ (x : NodeId). (w.flags x).up ≡ true) (same_is node m h) r.up
    up-named w (Hear node) m h r = subst (λ (x : NodeId). (w.flags x).up ≡ true) (same_is node m h) r.up
    up-named w (Gate node) m h r = subst (λ (x : NodeId). (w.flags x).up ≡ true) (same_is node m h) r.up
    up-named w (Crash node kept) m h r = subst (λ (x : NodeId). (w.flags x).up ≡ true) (same_is node m h) r.up
    up-named w (Down node cause) m h r = subst (λ (x : NodeId). (w.flags x).up ≡ true) (same_is node m h) r.up
    up-named w (Tick moment) m h r = absurd (cc h)

    -- each entry is of a node that was opened, or a Tick
    pub named-opened : (w : World) (es : List Entry) → ((m : NodeId) → (w.flags m).up ≡ true → (w.flags m).known ≡ true) → ((m : NodeId) → (w.flags m).known ≡ is_some (opened_log b.opened m))
        → Meets b fates w es → Every (λ e. (m : NodeId) → names m e ≡ true → is_some (opened_log b.opened m) ≡ true) es
    unfolding Meets
    named-opened w [] up known meets = tt
    named-opened w (e ∷ es) up known meets = (
      (λ m h. sym (known m) ∙ up m (up-named w e m h meets.0)),
      named-opened (step b w e) es (λ m h. (step-known b w e m).0 ∙ up m ((step-known b w e m).1 h)) (λ m. (step-known b w e m).0 ∙ known m) meets.1,
    )
