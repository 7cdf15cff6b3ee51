-- What a walk without brokers keeps.
use Rattle.std.proofs.Common.{◌≡◌, ◌<◌, ◌≤◌, ℕ, zero, suc, arith, nat_le, Bool, true, false, ◌&&◌, List, [], ◌∷◌, ◌++◌, map, inl, inr, refl, sym, ap, subst, ◌∙◌, Option, Some, None, is_some, append_assoc, reverse, if◌then◌else◌}
use Rattle.std.proofs.lemmas.Bool.{false≢true, true≢false}
use Rattle.std.proofs.lemmas.Bool.Decides.{nat_tests}
use Rattle.std.proofs.lemmas.List.{append-nil, reverse-append, reverse-reverse}
use Rattle.std.specs.List.{filter}
use Rattle.stream_port.specs.declared.fates.Fate.{Fate}
use Rattle.pseudo_time.specs.Nodes.{is_broker, repository, same_node}
use Rattle.pseudo_time.specs.StampParts.{StampParts}
use Rattle.pseudo_time.specs.declared.nodes.NodeId.{NodeId}
use Rattle.pseudo_time.specs.declared.nodes.NodeKind.{NodeKind}
use Rattle.pseudo_time.specs.declared.nodes.NodeKind.TheVariants.{Broker, Repository}
use Rattle.effect_form.specs.declared.effects.Effect.{Effect}
use Rattle.message_form.specs.Posts.{Post, posts}
use Rattle.plan_form.specs.declared.plans.Plan.{Plan}
use Rattle.repository_core.specs.Hands.{Hand, now}
use Rattle.repository_core.specs.Hearing.{on_moment}
use Rattle.repository_core.specs.Rows.{on_learn}
use Rattle.repository_core.specs.Turns as hands
unfoldable use Rattle.repository_core.specs.Turns.{gives}
use Rattle.repository_log.specs.Logs.{record_of}
use Rattle.commit_record.specs.declared.states.RecordState.TheVariants.{Unknown}
use Rattle.serial_model.specs.Questions.{Tree}
use Rattle.value_form.specs.declared.acts.ActSpec.{ActSpec}
use Rattle.world_core.proofs.Lives.{walk-more}
use Rattle.world_core.specs.Legal.{Idle, JustNodes, base_of, in_plan, is_within, most_of, post_of}
use Rattle.world_core.specs.Nodes.{Mind, kind_gives, leaves, with_hands}
unfoldable use Rattle.world_core.specs.Nodes.{gives as node_gives}
use Rattle.world_core.specs.Nodes.Input.{Going, Hearing, Learning}
use Rattle.world_core.specs.Walks.{Base, Flags, Life, World, after_input, all_effects, flagged, heard_after, hears, last_after, leaving, lives_on, names, numbered, sent_by, start_world, step, took, walk, went, with_given}
unfoldable use Rattle.world_core.specs.Walks.{walk_from}
use Rattle.world_core.specs.declared.entries.Entry.{Entry}
use Rattle.world_core.specs.declared.entries.Entry.TheVariants.{Take, Go, Learn, Hear, Gate, Crash, Down, Tick}
use Rattle.settle_law.proofs.DueLemmas.{heard-none, learned-back}
use Rattle.settle_law.proofs.SilentLemmas.{Silent, hear-silent, learn-silent}
use Rattle.settle_law.specs.Settling.{NoneDue}

-- ---- a repository's life

-- nobody waits for it, and it owes nothing
pub record SilentLife (l : Life) : Type 0 where
  pub held : l.mind.hands.held ≡ []
  pub askers : l.mind.hands.askers ≡ []
  pub outs : l.outs ≡ []

-- Nobody waits for it. What it has to close is marked, and after it heard the last Tick nothing is due then.
pub record Quiet (l : Life) (f : Flags) (heard : Bool) (last : Option ℕ) : Type 0 where
  pub silent : SilentLife l
  pub known : f.up ≡ true → f.known ≡ true
  pub closed : f.due ≡ false → l.fresh ≡ []
  pub none : f.known ≡ true → heard ≡ true → (moment : ℕ) → last ≡ Some moment → NoneDue moment (all_effects l)

-- a turn of it
abbrev hand_of : ℕ → Life → Hand
hand_of r l = hands.hand_at r (reverse (all_effects l)) l.mind.hands

hand-silent : (r : ℕ) (l : Life) → SilentLife l → Silent (reverse (all_effects l)) (hand_of r l)
hand-silent r l q = record { past = refl; held = q.held; askers = q.askers; outs = refl }

-- and what it leaves
abbrev life_with : Life → Hand → Life
life_with l h = with_given l (with_hands l.mind (record { effects = reverse h.added; outs = h.outs; mind = hands.mind_of h }))

module _ (l : Life) (h : Hand) (q : SilentLife l) (s : Silent (reverse (all_effects l)) h) where
  silent-with : SilentLife (life_with l h)
  silent-with = record { held = s.held; askers = s.askers; outs = ap (λ o. o ++ h.outs) q.outs ∙ s.outs }

  -- its log, newest first, is that of the turn
  log-with : reverse (all_effects (life_with l h)) ≡ now h
  log-with =
      ap reverse (sym (append_assoc l.gated l.fresh (reverse h.added)))
      ∙ (reverse-append (all_effects l) (reverse h.added)
      ∙ (ap (λ x. x ++ reverse (all_effects l)) (reverse-reverse h.added) ∙ ap (λ x. h.added ++ x) (sym s.past)))

  none-with : (moment : ℕ) → ((p : StampParts) (d : ℕ) → record_of (now h) p ≡ Some (Unknown d) → moment < d) → NoneDue moment (all_effects (life_with l h))
  none-with moment each p d k = each p d (ap (λ x. record_of x p) (sym log-with) ∙ k)

no-end : (l : Life) (moment : ℕ) (more : List Effect) → more ≡ [] → NoneDue moment (all_effects l) → NoneDue moment (all_effects l ++ more)
no-end l moment more e none = subst (NoneDue moment) (sym (ap (λ x. all_effects l ++ x) e ∙ append-nil (all_effects l))) none

-- ---- an entry of its own

module _ (script : List ℕ → Tree) (run : ℕ) (acts : List ActSpec) where
  learns-quiet : (k : NodeKind) (i : ℕ) (l : Life) (f : Flags) (heard : Bool) (last : Option ℕ) (s : StampParts) (c : Bool) → is_broker k ≡ false → Quiet l f heard last
      → SilentLife (with_given l (kind_gives script run acts k i (all_effects l) l.mind (Learning s c)))
      × ((moment : ℕ) → NoneDue moment (all_effects l) → NoneDue moment (all_effects (with_given l (kind_gives script run acts k i (all_effects l) l.mind (Learning s c)))))
  unfolding gives
  learns-quiet Broker i l f heard last s c h q = absurd (true≢false h)
  learns-quiet Repository i l f heard last s c h q =
      let g = hand_of i l in
      let x = learn-silent (reverse (all_effects l)) g s c (hand-silent i l q.silent) in
      (silent-with l (on_learn g s c) q.silent x, λ moment none. none-with l (on_learn g s c) q.silent x moment (λ p d k. none p d (learned-back g s p c d k)))

  hears-quiet : (k : NodeKind) (i : ℕ) (l : Life) (m : ℕ) → is_broker k ≡ false → SilentLife l
      → SilentLife (with_given l (kind_gives script run acts k i (all_effects l) l.mind (Hearing m)))
      × NoneDue m (all_effects (with_given l (kind_gives script run acts k i (all_effects l) l.mind (Hearing m))))
  unfolding gives
  hears-quiet Broker i l m h q = absurd (true≢false h)
  hears-quiet Repository i l m h q =
      let g = hand_of i l in
      let x = hear-silent (reverse (all_effects l)) g m (hand-silent i l q) in
      (silent-with l (on_moment g m) q x, none-with l (on_moment g m) q x m (λ p d k. heard-none g m p d k))

  goes-quiet : (k : NodeKind) (i : ℕ) (l : Life) (f : Flags) (heard : Bool) (last : Option ℕ) → is_broker k ≡ false → Quiet l f heard last
      → Quiet (with_given l (kind_gives script run acts k i (all_effects l) l.mind Going)) (went k f) heard last
  goes-quiet Broker i l f heard last h q = absurd (true≢false h)
  goes-quiet Repository i l f heard last h q = record {
    silent = record { held = q.silent.held; askers = q.silent.askers; outs = append-nil l.outs ∙ q.silent.outs };
    known = q.known;
    closed = λ e. append-nil l.fresh ∙ q.closed e;
    none = λ k j moment is. subst (λ x. NoneDue moment (l.gated ++ x)) (sym (append-nil l.fresh)) (q.none k j moment is);
  }

module _ (b : Base) where
  none-sent : {X : Type 0} (xs : List X) (number : ℕ) → xs ≡ [] → numbered xs number ≡ None
  none-sent xs zero e = refl
  none-sent xs (suc k) e = ap (λ z. numbered z (suc k)) e

  module _ (w : World) (n : NodeId) (repo : is_broker n.kind ≡ false) (unsent : w.sendings ≡ []) where
    abbrev l : Life
    l = w.life n

    abbrev f : Flags
    f = w.flags n

    took-same : (number : ℕ) → took b n l (numbered w.sendings number) ≡ l
    took-same number = ap (took b n l) (none-sent w.sendings number unsent)

    -- after what it heard, which marks that it has something to close
    heard-quiet : (node : NodeId) → (last : Option ℕ) → (same : Bool) → same ≡ true → f.known ≡ true → Quiet l f (w.heard n) last → Quiet (hears b n l last) (flagged last n.kind f (Hear node)) (if same then is_some last else w.heard n) last
    unfolding node_gives
    heard-quiet node None same t k q = record { silent = q.silent; known = q.known; closed = q.closed; none = λ j h. absurd (false≢true (ap (λ x. if x then false else w.heard n) (sym t) ∙ h)) }
    heard-quiet node (Some m) same t k q =
        let x = hears-quiet b.script b.run b.acts n.kind n.number l m repo q.silent in
        record { silent = x.0; known = q.known; closed = λ e. absurd (true≢false e); none = λ j h moment is. subst (λ y. NoneDue y (all_effects (hears b n l (Some m)))) (same-moment is) x.1 }
      where
        same-moment : {x y : ℕ} → Some x ≡ Some y → x ≡ y
        same-moment e = cc e

    crashed-quiet : (same : Bool) (heard : Bool) (more : Life) (k : Flags) (last : Option ℕ) → same ≡ true → SilentLife more → more.fresh ≡ [] → (k.up ≡ true → k.known ≡ true) → Quiet more k (if same then false else heard) last
    crashed-quiet true heard more k last t q e u = record { silent = q; known = u; closed = λ _. e; none = λ j h. absurd (false≢true h) }
    crashed-quiet false heard more k last t q e u = absurd (false≢true t)

    own-quiet : (e : Entry) → names n e ≡ true → f.known ≡ true → Quiet l f (w.heard n) w.last → Quiet (lives_on b w n l e) (flagged w.last n.kind f e) (heard_after w e n) (last_after w.last e)
    unfolding node_gives
    own-quiet (Take node number) t k q =
        subst (λ x. Quiet x (flagged w.last n.kind f (Take node number)) (w.heard n) w.last) (sym (took-same number))
        (record { silent = q.silent; known = q.known; closed = λ e. absurd (true≢false e); none = q.none })
    own-quiet (Go node) t k q = goes-quiet b.script b.run b.acts n.kind n.number l f (w.heard n) w.last repo q
    own-quiet (Learn node stamp committed) t k q = by n.kind refl
      where
        by : (kind : NodeKind) → n.kind ≡ kind → Quiet (lives_on b w n l (Learn node stamp committed)) (flagged w.last kind f (Learn node stamp committed)) (w.heard n) w.last
        by Broker e = absurd (true≢false (ap is_broker (sym e) ∙ repo))
        by Repository e =
            let x = learns-quiet b.script b.run b.acts n.kind n.number l f (w.heard n) w.last stamp committed repo q in
            record { silent = x.0; known = q.known; closed = λ z. absurd (true≢false z); none = λ j h moment is. x.1 moment (q.none j h moment is) }
    own-quiet (Hear node) t k q = heard-quiet node w.last (same_node node n) t k q
    own-quiet (Gate node) t k q = record {
      silent = record { held = q.silent.held; askers = q.silent.askers; outs = refl };
      known = q.known;
      closed = λ _. refl;
      none = λ j h moment is. no-end l moment [] refl (q.none j h moment is);
    }
    own-quiet (Crash node kept) t k q = crashed-quiet (same_node node n) (w.heard n) (lives_on b w n l (Crash node kept)) (flagged w.last n.kind f (Crash node kept)) w.last t (record { held = refl; askers = refl; outs = refl }) refl q.known
    own-quiet (Down node cause) t k q = record { silent = q.silent; known = λ e. absurd (false≢true e); closed = q.closed; none = q.none }
    own-quiet (Tick moment) t k q = absurd (false≢true t)

    -- an entry of another node, or of the conductor
    other-heard : (same heard new : Bool) → same ≡ false → (if same then new else heard) ≡ heard
    other-heard true heard new t = absurd (true≢false t)
    other-heard false heard new t = refl

    other-quiet : (e : Entry) → names n e ≡ false → Quiet l f (w.heard n) w.last → Quiet l f (heard_after w e n) (last_after w.last e)
    other-quiet (Take node number) t q = q
    other-quiet (Go node) t q = q
    other-quiet (Learn node stamp committed) t q = q
    other-quiet (Hear node) t q = subst (λ x. Quiet l f x w.last) (sym (other-heard (same_node node n) (w.heard n) (is_some w.last) t)) q
    other-quiet (Gate node) t q = q
    other-quiet (Crash node kept) t q = subst (λ x. Quiet l f x w.last) (sym (other-heard (same_node node n) (w.heard n) false t)) q
    other-quiet (Down node cause) t q = q
    other-quiet (Tick moment) t q = record { silent = q.silent; known = q.known; closed = q.closed; none = λ j h. absurd (false≢true h) }

    step-quiet : (e : Entry) → Quiet l f (w.heard n) w.last → Quiet ((step b w e).life n) ((step b w e).flags n) ((step b w e).heard n) (step b w e).last
    step-quiet e q = go (names n e) f.known refl refl
      where
        go : (t k : Bool) → names n e ≡ t → f.known ≡ k → Quiet (if t && k then lives_on b w n l e else l) (if t && k then flagged w.last n.kind f e else f) (heard_after w e n) (last_after w.last e)
        go true true p r = own-quiet e p r q
        go false k p r = other-quiet e p q
        go true false p r = record { silent = q.silent; known = q.known; closed = q.closed; none = λ j. absurd (false≢true (sym r ∙ j)) }

  -- ---- the world

  -- Nothing was sent, no broker was opened, and each repository is quiet.
  pub record Calm (w : World) : Type 0 where
    pub unsent : w.sendings ≡ []
    pub brokers : (n : NodeId) → is_broker n.kind ≡ true → (w.flags n).known ≡ false
    pub quiet : (n : NodeId) → is_broker n.kind ≡ false → Quiet (w.life n) (w.flags n) (w.heard n) w.last

  module _ (w : World) (c : Calm w) where
    -- a gate sends nothing
    leaves-none : (n : NodeId) → leaving w n ≡ []
    leaves-none n = by (is_broker n.kind) refl
      where
        known-by : (k : Bool) → k ≡ false → (if k then posts n (filter (leaves (all_effects (w.life n))) (w.life n).outs) else []) ≡ []
        known-by true e = absurd (true≢false e)
        known-by false e = refl

        owed-by : (k : Bool) → (w.life n).outs ≡ [] → (if k then posts n (filter (leaves (all_effects (w.life n))) (w.life n).outs) else []) ≡ []
        owed-by true e = ap (λ o. posts n (filter (leaves (all_effects (w.life n))) o)) e
        owed-by false e = refl

        by : (t : Bool) → is_broker n.kind ≡ t → leaving w n ≡ []
        by true e = known-by (w.flags n).known (c.brokers n e)
        by false e = owed-by (w.flags n).known (c.quiet n e).silent.outs

    unsent-still : (e : Entry) → (step b w e).sendings ≡ []
    unsent-still (Take node number) = c.unsent
    unsent-still (Go node) = c.unsent
    unsent-still (Learn node stamp committed) = c.unsent
    unsent-still (Hear node) = c.unsent
    unsent-still (Gate node) = ap (λ x. x ++ map (λ (p : Post). record { post = p; ticks = w.ticks }) (leaving w node)) c.unsent ∙ ap (map (λ (p : Post). record { post = p; ticks = w.ticks })) (leaves-none node)
    unsent-still (Crash node kept) = c.unsent
    unsent-still (Down node cause) = c.unsent
    unsent-still (Tick moment) = c.unsent

    brokers-still : (e : Entry) (n : NodeId) → is_broker n.kind ≡ true → ((step b w e).flags n).known ≡ false
    brokers-still e n h = go (names n e) (w.flags n).known (c.brokers n h) (c.brokers n h)
      where
        go : (t k : Bool) → k ≡ false → (w.flags n).known ≡ false → (if t && k then flagged w.last n.kind (w.flags n) e else w.flags n).known ≡ false
        go t true e r = absurd (true≢false e)
        go true false e r = r
        go false false e r = r

    pub calm-step : (e : Entry) → Calm (step b w e)
    calm-step e = record { unsent = unsent-still e; brokers = brokers-still e; quiet = λ n h. step-quiet w n h c.unsent e (c.quiet n h) }

  calm-walk : (w : World) (es : List Entry) → Calm w → Calm (walk_from b w es)
  unfolding walk_from
  calm-walk w [] c = c
  calm-walk w (e ∷ es) c = calm-walk (step b w e) es (calm-step w c e)

  calm-start : ((n : NodeId) → is_broker n.kind ≡ true → ((start_world b).flags n).known ≡ false) → Calm (start_world b)
  calm-start none = record {
    unsent = refl;
    brokers = none;
    quiet = λ n h. record { silent = record { held = refl; askers = refl; outs = refl }; known = λ e. e; closed = λ _. refl; none = λ k j. absurd (false≢true j) };
  }

  pub calm : (es : List Entry) → ((n : NodeId) → is_broker n.kind ≡ true → ((start_world b).flags n).known ≡ false) → Calm (walk b es)
  calm es none = calm-walk (start_world b) es (calm-start none)

-- no number is one of none
pub none-within : (n : ℕ) → is_within n 0 ≡ false
none-within n = go (nat_le 1 n) (nat_le n 0) refl refl
  where
    go : (a b : Bool) → nat_le 1 n ≡ a → nat_le n 0 ≡ b → (a && b) ≡ false
    go false b p q = refl
    go true false p q = refl
    go true true p q =
        let low : 1 ≤ n = grind (arith, nat_tests) in
        let high : n ≤ 0 = grind (arith, nat_tests) in
        absurd (omega (arith, low, high))

pub none-mapped : {X Y : Type 0} (g : X → Y) (xs : List X) → map g xs ≡ [] → xs ≡ []
none-mapped g [] e = refl
none-mapped g (x ∷ xs) e = absurd (cc e)
