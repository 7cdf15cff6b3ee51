-- A legal trace over logs with a past is a run of a world without rules of turns.
use Rattle.std.proofs.lemmas.Option.{same_Some}
use Rattle.world_facts.proofs.Names.{Has, StampParts, NodeId, has-right, ActSpec, Effect, Out, Grew, Post, posts, Fate, same_node, Tree, Entry, Input, repository, Going, Taking, Learning, Hearing, Base, Life, Sending, World, names, step, after_input, lives_on, leaving, sent_by, walk_from, Meets, NodeFacts, Turns, MayInput, TurnGives, NodeLaws, SoftNode, all_effects, put, gate, crash, Soft, around, SoftEvent, react, happened, Mays, Inv, React, Gate, Crash, Tick, soft_of, Refines, ◌≡◌, ℕ, zero, suc, ◌-◌, Bool, true, false, List, [], ◌∷◌, ◌++◌, drop, length, reverse, if◌then◌else◌, refl, sym, ◌∙◌, ap, subst, Option, Some, None, is_some, append_assoc, inl, inr, filter, append-nil, has-reverse, leaves, took, hears, last_after, MayTake, MayHear, MayGate, MayCrash, IsDecidedAs, Rule, IsDecided, Models}
use Rattle.effect_form.specs.declared.effects.Effect.TheVariants as effect
use Rattle.world_core.specs.declared.entries.Entry.TheVariants as entry
use Rattle.world_core.specs.Walks as walks
use Rattle.world_facts.proofs.Growths.{none-has, numbered-has, put-all}
use Rattle.world_facts.proofs.Keeps.{tidy-grown, turn-gives, inv-reached}
use Rattle.world_facts.proofs.Steps.{step-known, both-changed, all-stay, unknown-stays, gated-soft, crashed-soft, told-soft, sent-gate}

not-both : (t : Bool) → t ≡ true → t ≡ false → ⊥
not-both t h k = let no : true ≡ false = sym h ∙ k in cc no

module _ (script : List ℕ → Tree) (turns : Turns) (F : NodeFacts) (laws : NodeLaws script turns F) where
  -- ---- ready logs

  -- a turn keeps a log ready
  react-ready : (s : Soft) (run : ℕ) (acts : List ActSpec) (n : NodeId) (input : Input) → Inv F s → MayInput (around s) n input → F.Ready run acts n (all_effects (s.node n)) →
      F.Ready run acts n (all_effects (react turns run acts n (s.node n) input))
  react-ready s run acts n input inv may ready =
      let g : TurnGives F (around s) run acts n (all_effects (s.node n)) (turns run acts n (all_effects (s.node n)) (s.node n).mind input) = turn-gives script turns F laws s run acts n input inv may ready in
      subst (F.Ready run acts n) (sym (append_assoc (turns run acts n (all_effects (s.node n)) (s.node n).mind input).effects (s.node n).added (s.node n).past)) g.ready

  -- and so does a crash
  ready-cut : (run : ℕ) (acts : List ActSpec) (n : NodeId) (log : List Effect) (i : ℕ) (fresh : List Effect) → F.Tidy n log → Grew (F.Fits n) log fresh →
      F.Ready run acts n (fresh ++ log) → F.Ready run acts n (drop i fresh ++ log)
  ready-cut run acts n log zero fresh tidy grew ready = ready
  ready-cut run acts n log (suc i) [] tidy grew ready = ready
  ready-cut run acts n log (suc i) (f ∷ fresh) tidy grew ready =
      ready-cut run acts n log i fresh tidy grew.0 (laws.ready_below run acts n (fresh ++ log) f (tidy-grown script turns F laws n log fresh grew.0 tidy) grew.1 ready)

  pub ready-gated : (run : ℕ) (acts : List ActSpec) (n : NodeId) (log fresh : List Effect) → F.Tidy n log → Grew (F.Fits n) log fresh → F.Ready run acts n (fresh ++ log) → F.Ready run acts n log
  ready-gated run acts n log [] tidy grew ready = ready
  ready-gated run acts n log (f ∷ fresh) tidy grew ready = ready-gated run acts n log fresh tidy grew.0 (laws.ready_below run acts n (fresh ++ log) f (tidy-grown script turns F laws n log fresh grew.0 tidy) grew.1 ready)

  module _ (b : Base) (others : NodeId → List Effect) (olds : NodeId → List (List Effect)) (old : List Post) (May : ℕ → Type 0) (same : b.script ≡ script) where
    -- ---- one entry

    -- one node changed on both sides
    one-changed : (s : Soft) (w : World) (e : Entry) (n : NodeId) (y : SoftNode) (ever new : List Post) → Models turns F b others olds old May s w → ((k : NodeId) → names k e ≡ same_node n k) →
        (w.flags n).known ≡ true → y ≡ soft_of (lives_on b w n (w.life n) e) → F.Ready b.run b.acts n (all_effects y) → ever ≡ s.ever ++ new →
        sent_by (step b w e) ≡ sent_by w ++ new → last_after w.last e ≡ w.last → Models turns F b others olds old May (record { node = put n y s.node; olds = s.olds; ever = ever; ticks = s.ticks }) (step b w e)
    one-changed s w e n y ever new h own known is ready grew sends last = record {
      known = λ k. (step-known b w e k).0 ∙ h.known k;
      ups = λ k up. (step-known b w e k).0 ∙ h.ups k ((step-known b w e k).1 up);
      lives = λ k kn. (both-changed b w e n y s.node (λ k x l. ((w.flags k).known ≡ true) → x ≡ soft_of l) own known (λ u. is) h.lives k) (sym (step-known b w e k).0 ∙ kn);
      outside = λ k kn. (put-all (λ k x. ((w.flags k).known ≡ false) → (x.past ≡ reverse (others k)) × (x.added ≡ [])) n y s.node (λ u. absurd (not-both (w.flags n).known known u)) h.outside k) (sym (step-known b w e k).0 ∙ kn);
      unknown = λ k kn. let u : (w.flags k).known ≡ false = sym (step-known b w e k).0 ∙ kn in ap (λ (l : Life). l.gated) (unknown-stays b w e k u) ∙ h.unknown k u;
      retired = h.retired;
      ever = grew ∙ ap (λ z. z ++ new) h.ever ∙ append_assoc old (sent_by w) new ∙ ap (λ z. old ++ z) (sym sends);
      ticks = λ t at. h.ticks t (sym last ∙ at);
      ticked = h.ticked;
      ready = λ k kn. (both-changed b w e n y s.node (λ k x l. ((w.flags k).known ≡ true) → F.Ready b.run b.acts k (all_effects (soft_of l))) own known
          (λ u. subst (λ x. F.Ready b.run b.acts n (all_effects x)) is ready) h.ready k) (sym (step-known b w e k).0 ∙ kn);
    }

    -- an input of a node that was opened
    input-refines : (w : World) (e : Entry) (n : NodeId) (input : Input) (r : Refines turns F b others olds old May w) → ((k : NodeId) → names k e ≡ same_node n k) → (w.flags n).known ≡ true →
        MayInput (around (happened turns r.events)) n input → lives_on b w n (w.life n) e ≡ after_input b n (w.life n) input → sent_by (step b w e) ≡ sent_by w → last_after w.last e ≡ w.last →
        Refines turns F b others olds old May (step b w e)
    input-refines w e n input r own known may is sends last =
        let s : Soft = happened turns r.events in
        let at : s.node n ≡ soft_of (w.life n) = r.models.lives n known in
        let ready : F.Ready b.run b.acts n (all_effects (s.node n)) = subst (λ x. F.Ready b.run b.acts n (all_effects x)) (sym at) (r.models.ready n known) in
        record {
          events = React n b.run b.acts input ∷ r.events;
          may = (r.may, (may, ready));
          models = one-changed s w e n (react turns b.run b.acts n (s.node n) input) s.ever [] r.models own known
              (ap (λ x. react turns b.run b.acts n x input) at ∙ told-soft script turns F laws b n (w.life n) input same ∙ ap soft_of (sym is))
              (react-ready s b.run b.acts n input (inv-reached script turns F laws r.events r.may) may ready) (sym (append-nil s.ever)) (sends ∙ sym (append-nil (sent_by w))) last;
        }

    -- a decision that stands in the trace stands in the other world
    decided-there : (s : Soft) (w : World) (t : StampParts) (committed : Bool) → Models turns F b others olds old May s w → IsDecidedAs w t committed → IsDecided (around s) t committed
    decided-there s w t committed h d = (d.0, go (w.flags (repository t.home)).known refl, d.2)
      where
        go : (k : Bool) → (w.flags (repository t.home)).known ≡ k → Has (effect.Decide t d.0) (s.node (repository t.home)).past
        go true e = subst (λ (x : SoftNode). Has (effect.Decide t d.0) x.past) (sym (h.lives (repository t.home) e)) (has-reverse (w.life (repository t.home)).gated (effect.Decide t d.0) d.1)
        go false e = absurd (none-has (w.life (repository t.home)).gated (effect.Decide t d.0) (h.unknown (repository t.home) e) d.1)

    take-refines : (fates : List Fate) (w : World) (n : NodeId) (number : ℕ) → Refines turns F b others olds old May w → MayTake fates w n number → Refines turns F b others olds old May (step b w (entry.Take n number))
    take-refines fates w n number r rule =
        let p : Post = rule.sending.post in
        let may : Has (record { from = p.from; to = n; message = p.message }) (happened turns r.events).ever =
        subst (Has (record { from = p.from; to = n; message = p.message })) (sym r.models.ever) (has-right old (sent_by w) _
        (subst (λ to. Has (record { from = p.from; to = to; message = p.message }) (sent_by w)) rule.to (numbered-has (λ (x : Sending). x.post) w.sendings number rule.sending rule.sent))) in
        input-refines w (entry.Take n number) n (Taking p.from p.message) r (λ k. refl) (r.models.ups n rule.up) may (ap (took b n (w.life n)) rule.sent) refl refl

    hear-refines : (w : World) (n : NodeId) → Refines turns F b others olds old May w → MayHear w n → Refines turns F b others olds old May (step b w (entry.Hear n))
    hear-refines w n r rule = go w.last refl
      where
        go : (last : Option ℕ) → w.last ≡ last → Refines turns F b others olds old May (step b w (entry.Hear n))
        go None e = absurd (let no : true ≡ false = sym rule.some ∙ ap is_some e in cc no)
        go (Some t) e = input-refines w (entry.Hear n) n (Hearing t) r (λ k. refl) (r.models.ups n rule.up) (r.models.ticks t e) (ap (hears b n (w.life n)) e) refl refl

    gate-refines : (w : World) (n : NodeId) → Refines turns F b others olds old May w → MayGate w n → Refines turns F b others olds old May (step b w (entry.Gate n))
    gate-refines w n r rule =
        let s : Soft = happened turns r.events in
        let known : (w.flags n).known ≡ true = r.models.ups n rule.up in
        let at : s.node n ≡ soft_of (w.life n) = r.models.lives n known in
        let which : Out → Bool = leaves (walks.all_effects (w.life n)) in
        let left : leaving w n ≡ posts n (filter which (s.node n).outs) =
        ap (λ t. if t then posts n (filter which (w.life n).outs) else []) known ∙ ap (λ (x : SoftNode). posts n (filter which x.outs)) (sym at) in
        record {
          events = Gate n which ∷ r.events;
          may = r.may;
          models = one-changed s w (entry.Gate n) n (gate (s.node n)) (s.ever ++ posts n (filter which (s.node n).outs)) (posts n (filter which (s.node n).outs)) r.models (λ k. refl) known
              (ap gate at ∙ gated-soft (w.life n)) (subst (λ x. F.Ready b.run b.acts n (all_effects x)) (sym at) (r.models.ready n known)) refl
              (sent-gate b w n ∙ ap (λ z. sent_by w ++ z) left) refl;
        }

    crash-refines : (w : World) (n : NodeId) (kept : ℕ) → Refines turns F b others olds old May w → MayCrash w n kept → Refines turns F b others olds old May (step b w (entry.Crash n kept))
    crash-refines w n kept r rule =
        let s : Soft = happened turns r.events in
        let inv : Inv F s = inv-reached script turns F laws r.events r.may in
        let known : (w.flags n).known ≡ true = r.models.ups n rule.up in
        let at : s.node n ≡ soft_of (w.life n) = r.models.lives n known in
        record {
          events = Crash n kept b.start ∷ r.events;
          may = r.may;
          models = one-changed s w (entry.Crash n kept) n (crash kept b.start (s.node n)) s.ever [] r.models (λ k. refl) known
              (ap (crash kept b.start) at ∙ crashed-soft b.start kept (w.life n))
              (ready-cut b.run b.acts n (s.node n).past (length (s.node n).added - kept) (s.node n).added (inv.nodes n).tidy (inv.nodes n).grew
              (subst (λ x. F.Ready b.run b.acts n (all_effects x)) (sym at) (r.models.ready n known)))
              (sym (append-nil s.ever)) (sym (append-nil (sent_by w))) refl;
        }

    -- an entry that changes no life
    still-refines : (w : World) (e : Entry) (events : List SoftEvent) → Mays F turns events → (m : Models turns F b others olds old May (happened turns events) w) → ((k : NodeId) → (step b w e).life k ≡ w.life k) →
        sent_by (step b w e) ≡ sent_by w → ((t : ℕ) → last_after w.last e ≡ Some t → Has t (happened turns events).ticks) → Refines turns F b others olds old May (step b w e)
    still-refines w e events may h stays sends ticks = record {
      events = events;
      may = may;
      models = record {
        known = λ k. (step-known b w e k).0 ∙ h.known k;
        ups = λ k up. (step-known b w e k).0 ∙ h.ups k ((step-known b w e k).1 up);
        lives = λ k kn. h.lives k (sym (step-known b w e k).0 ∙ kn) ∙ ap soft_of (sym (stays k));
        outside = λ k kn. h.outside k (sym (step-known b w e k).0 ∙ kn);
        unknown = λ k kn. ap (λ (l : Life). l.gated) (stays k) ∙ h.unknown k (sym (step-known b w e k).0 ∙ kn);
        retired = h.retired;
        ever = h.ever ∙ ap (λ z. old ++ z) (sym sends);
        ticks = ticks;
        ticked = h.ticked;
        ready = λ k kn. subst (λ l. F.Ready b.run b.acts k (all_effects (soft_of l))) (sym (stays k)) (h.ready k (sym (step-known b w e k).0 ∙ kn));
      };
    }

    ticked : (w : World) (moment : ℕ) (s : Soft) → May moment → Models turns F b others olds old May s w → Models turns F b others olds old May (record { node = s.node; olds = s.olds; ever = s.ever; ticks = moment ∷ s.ticks }) w
    ticked w moment s may h = record { known = h.known; ups = h.ups; lives = h.lives; outside = h.outside; unknown = h.unknown; retired = h.retired; ever = h.ever; ticks = λ t at. inr (h.ticks t at); ticked = λ t. now t; ready = h.ready }
      where
        now : (t : ℕ) → Has t (moment ∷ s.ticks) → May t
        now t (inl e) = subst May e may
        now t (inr k) = h.ticked t k

    pub step-refines : (fates : List Fate) (w : World) (e : Entry) → ((t : ℕ) → e ≡ entry.Tick t → May t) → Refines turns F b others olds old May w → Rule b fates w e → Refines turns F b others olds old May (step b w e)
    step-refines fates w (entry.Take n number) may r rule = take-refines fates w n number r rule
    step-refines fates w (entry.Go n) may r rule = input-refines w (entry.Go n) n Going r (λ k. refl) (r.models.ups n rule.up) tt refl refl refl
    step-refines fates w (entry.Learn n stamp committed) may r rule =
        input-refines w (entry.Learn n stamp committed) n (Learning stamp committed) r (λ k. refl) (r.models.ups n rule.up) (decided-there (happened turns r.events) w stamp committed r.models rule.stands) refl refl refl
    step-refines fates w (entry.Hear n) may r rule = hear-refines w n r rule
    step-refines fates w (entry.Gate n) may r rule = gate-refines w n r rule
    step-refines fates w (entry.Crash n kept) may r rule = crash-refines w n kept r rule
    step-refines fates w (entry.Down n cause) may r rule = still-refines w (entry.Down n cause) r.events r.may r.models (all-stay b w (entry.Down n cause) (λ k. refl)) refl r.models.ticks
    step-refines fates w (entry.Tick moment) may r rule =
        still-refines w (entry.Tick moment) (Tick moment ∷ r.events) r.may (ticked w moment (happened turns r.events) (may moment refl) r.models) (all-stay b w (entry.Tick moment) (λ k. refl)) refl
        (λ t at. inl (same_Some moment t at))

    pub walk-refines : (fates : List Fate) (w : World) (es : List Entry) → ((t : ℕ) → Has (entry.Tick t) es → May t) → Refines turns F b others olds old May w → Meets b fates w es → Refines turns F b others olds old May (walk_from b w es)
    unfolding walk_from Meets
    walk-refines fates w [] may r rules = r
    walk-refines fates w (e ∷ es) may r rules = walk-refines fates (step b w e) es (λ t h. may t (inr h)) (step-refines fates w e (λ t h. may t (inl h)) r rules.0) rules.1
