-- A node that is down has the life at the end that it had when it went down.
use Rattle.run_command.proofs.Names.{append-nil, filter-append, NodeId, DownCause, same_node-refl, Entry, Down, Base, names, own, start_world, walk, Meets, ◌≡◌, ◌∙◌, ◌++◌, ◌&&◌, Bool, true, false, List, [], ◌∷◌, cond, refl, ap, sym, append_assoc, if◌then◌else◌, World, lives_on, step, walk_from, same_node, fell, stays-down, stays-known, up-named}
use Rattle.stream_port.specs.declared.fates.Fate.{Fate}
use Rattle.world_core.proofs.Lives.{same-life, walk-append}
use Rattle.world_core.proofs.Others.{Silent}

silent-own : (n : NodeId) (es : List Entry) → Silent n es → own n es ≡ []
silent-own n [] h = refl
silent-own n (e ∷ es) h = ap (λ (t : Bool). cond t (e ∷ own n es) (own n es)) h.0 ∙ silent-own n es h.1

module _ (b : Base) (fates : List Fate) where
  -- a node that is down adds no entry
  silent-down : (w : World) (es : List Entry) (n : NodeId) → (w.flags n).up ≡ false → Meets b fates w es → Silent n es
  unfolding Meets
  silent-down w [] n h meets = tt
  silent-down w (e ∷ es) n h meets = (by (names n e) refl, silent-down (step b w e) es n (stays-down b w e n h) meets.1)
    where
      by : (t : Bool) → names n e ≡ t → names n e ≡ false
      by true q = absurd (let z : true ≡ false = sym (up-named b fates w e n q meets.0) ∙ h in cc z)
      by false q = q

  meets-behind : (w : World) (front es : List Entry) → Meets b fates w (front ++ es) → Meets b fates (walk_from b w front) es
  unfolding Meets walk_from
  meets-behind w [] es h = h
  meets-behind w (e ∷ front) es h = meets-behind (step b w e) front es h.1

  known-behind : (w : World) (es : List Entry) (n : NodeId) → (w.flags n).known ≡ true → ((walk_from b w es).flags n).known ≡ true
  unfolding walk_from
  known-behind w [] n h = h
  known-behind w (e ∷ es) n h = known-behind (step b w e) es n (stays-known b w e n h)

  rest-meets : (w : World) (e : Entry) (es : List Entry) → Meets b fates w (e ∷ es) → Meets b fates (step b w e) es
  unfolding Meets
  rest-meets w e es h = h.1

  one-step : (w : World) (e : Entry) (n : NodeId) → (walk_from b w (e ∷ [])).life n ≡ (step b w e).life n
  unfolding walk_from
  one-step w e n = refl

  down-life : (w : World) (n : NodeId) (cause : DownCause) → (step b w (Down n cause)).life n ≡ w.life n
  down-life w n cause = by (same_node n n && (w.flags n).known)
    where
      by : (t : Bool) → (if t then lives_on b w n (w.life n) (Down n cause) else w.life n) ≡ w.life n
      by true = refl
      by false = refl

  pub life-down : (front rest : List Entry) (n : NodeId) (cause : DownCause) → ((start_world b).flags n).known ≡ true → Meets b fates (start_world b) (front ++ Down n cause ∷ rest)
      → (walk b (front ++ Down n cause ∷ rest)).life n ≡ (walk b front).life n
  life-down front rest n cause known meets =
      ap (λ (es : List Entry). (walk b es).life n) (sym (append_assoc front (Down n cause ∷ []) rest))
      ∙ (same-life b (front ++ Down n cause ∷ []) rest n none
      ∙ (ap (λ (w : World). w.life n) (walk-append b (start_world b) front (Down n cause ∷ [])) ∙ (one-step (walk b front) (Down n cause) n ∙ down-life (walk b front) n cause)))
    where
      behind : Meets b fates (step b (walk b front) (Down n cause)) rest
      behind = rest-meets (walk b front) (Down n cause) rest (meets-behind (start_world b) front (Down n cause ∷ rest) meets)

      silent : own n rest ≡ []
      silent = silent-own n rest (silent-down (step b (walk b front) (Down n cause)) rest n (fell b (walk b front) n n cause (same_node-refl n) (known-behind (start_world b) front n known)) behind)

      none : own n ((front ++ Down n cause ∷ []) ++ rest) ≡ own n (front ++ Down n cause ∷ [])
      none = filter-append (names n) (front ++ Down n cause ∷ []) rest ∙ (ap (λ (es : List Entry). own n (front ++ Down n cause ∷ []) ++ es) silent ∙ append-nil (own n (front ++ Down n cause ∷ [])))
