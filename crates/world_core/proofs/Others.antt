-- What entries of others leave of a node: its flags, and that it is behind.
use Rattle.world_core.proofs.Names.{NodeId, Entry, Take, Go, Learn, Hear, Gate, Crash, Down, Tick, Base, World, names, own, flagged, flags_after, step, start_world, walk_from, walk, ◌≡◌, Bool, true, false, ◌&&◌, not, List, [], ◌∷◌, ◌++◌, cond, if◌then◌else◌, refl, sym, ap, subst, ◌∙◌, is_some, filter-append, is_behind}
use Rattle.world_core.proofs.Lives.{walk-append}

-- lists with no own entry of the node, entry by entry
abbrev pub Silent : NodeId → List Entry → Type 0
Silent n [] = Unit {0}
Silent n (e ∷ es) = (names n e ≡ false) × Silent n es

pub silent-from : (n : NodeId) (es : List Entry) → own n es ≡ [] → Silent n es
silent-from n [] h = tt
silent-from n (e ∷ es) h = go (names n e) refl (λ z. silent-from n es z)
  where
    go : (t : Bool) → names n e ≡ t → (own n es ≡ [] → Silent n es) → (names n e ≡ false) × Silent n es
    go true q rest = absurd (let z : cond true (e ∷ own n es) (own n es) ≡ [] = subst (λ t. cond t (e ∷ own n es) (own n es) ≡ []) q h in cc z)
    go false q rest = (q, rest (subst (λ t. cond t (e ∷ own n es) (own n es) ≡ []) q h))

module _ (b : Base) where
  flags-other : (w : World) (e : Entry) (n : NodeId) → names n e ≡ false → flags_after w e n ≡ w.flags n
  flags-other w e n h = ap (λ t. if t && (w.flags n).known then flagged w.last n.kind (w.flags n) e else w.flags n) h

  pub flags-others : (w : World) (es : List Entry) (n : NodeId) → Silent n es → (walk_from b w es).flags n ≡ w.flags n
  unfolding walk_from
  flags-others w [] n h = refl
  flags-others w (e ∷ es) n h = flags-others (step b w e) es n h.1 ∙ flags-other w e n h.0

  nothing-added : {X : Type 0} (xs ys : List X) → xs ++ ys ≡ xs → ys ≡ []
  nothing-added [] ys h = h
  nothing-added (x ∷ xs) ys h = nothing-added xs ys (cc h)

  pub silent-more : (es more : List Entry) (n : NodeId) → own n (es ++ more) ≡ own n es → Silent n more
  silent-more es more n h = silent-from n more (nothing-added (own n es) (own n more) (sym (filter-append (names n) es more) ∙ h))

  -- a node has the flags of its own entries
  pub same-flags : (es more : List Entry) (n : NodeId) → own n (es ++ more) ≡ own n es → (walk b (es ++ more)).flags n ≡ (walk b es).flags n
  same-flags es more n h = ap (λ (w : World). w.flags n) (walk-append b (start_world b) es more) ∙ flags-others (walk b es) more n (silent-more es more n h)

  behind-other : (w : World) (e : Entry) (n : NodeId) → names n e ≡ false → is_behind w n ≡ true → is_behind (step b w e) n ≡ true
  behind-other w (Take node number) n h k = k
  behind-other w (Go node) n h k = k
  behind-other w (Learn node stamp committed) n h k = k
  behind-other w (Hear node) n h k = ap (λ t. is_some w.last && not (if t then is_some w.last else w.heard n)) h ∙ k
  behind-other w (Gate node) n h k = k
  behind-other w (Crash node kept) n h k = ap (λ t. is_some w.last && not (if t then false else w.heard n)) h ∙ k
  behind-other w (Down node cause) n h k = k
  behind-other w (Tick moment) n h k = refl

  behind-others : (w : World) (es : List Entry) (n : NodeId) → Silent n es → is_behind w n ≡ true → is_behind (walk_from b w es) n ≡ true
  unfolding walk_from
  behind-others w [] n h k = k
  behind-others w (e ∷ es) n h k = behind-others (step b w e) es n h.1 (behind-other w e n h.0 k)

  -- a node that is behind stays so until an entry of its own
  pub same-behind : (es more : List Entry) (n : NodeId) → own n (es ++ more) ≡ own n es → is_behind (walk b es) n ≡ true → is_behind (walk b (es ++ more)) n ≡ true
  same-behind es more n h k = ap (λ (w : World). is_behind w n) (walk-append b (start_world b) es more) ∙ behind-others (walk b es) more n (silent-more es more n h) k
