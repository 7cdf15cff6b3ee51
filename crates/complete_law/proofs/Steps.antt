-- Each entry of a calm trace keeps what always holds.
use Rattle.std.specs.Option.{unwrap_or}
use Rattle.complete_law.proofs.Names.{Every, StampParts, NodeId, NodeKind, Fate, book, nothing_heard, repository, broker, keep, Entry, Base, Life, World, opened_life, opened_log, start_world, step, walk_from, all_effects, Meets, MayTake, MayGo, MayLearn, Rule, base_of, fates_of, node_turns, node_facts, Refines, node-laws, past-laws, CalmRun, CalmPlace, IsUnstopped, IsIdleAt, AllDone, world_at, DeskSound, desk_at, ◌≡◌, ℕ, Bool, List, [], ◌∷◌, reverse, refl, sym, ◌∙◌, ap, subst, Some, None, is_some, inl, inr, false≢true, true≢false, MayHear, opens, left-nothing, ready-start}
use Rattle.pseudo_time.specs.declared.nodes.NodeKind.TheVariants as kind
use Rattle.world_core.specs.declared.entries.Entry.TheVariants as entry
use Rattle.world_core.proofs.Rules.{meets-front}
use Rattle.serial_law.proofs.Refinements.{step-refines}
use Rattle.complete_law.proofs.Places.{CalmWorld, IsBegun, IsDecided, tasks_of}
use Rattle.complete_law.proofs.BrokerMoves.{take-calm, go-calm}
use Rattle.complete_law.proofs.GateMoves.{gate-calm}
use Rattle.complete_law.proofs.RepositoryMoves.{learn-calm, take-calm-there}
use Rattle.complete_law.proofs.Stucks.{stuck-never}

module _ (r : CalmRun) where
  abbrev pub b : Base
  b = base_of r.script r.plan r.trace

  abbrev pub fates : List Fate
  fates = fates_of r.trace.sent

  -- all that the landed laws say of nodes, with what isn't gated yet; no moment is ticked
  abbrev pub Facts-at : World → Type 0
  Facts-at w = Refines (node_turns r.script) (node_facts r.script) b (λ n. []) (λ n. []) [] (λ t. ⊥) w

  -- ---- the steps

  go-step : (w : World) (n : NodeId) → Facts-at w → CalmWorld b w → MayGo w n → CalmWorld b (step b w (entry.Go n))
  go-step w n f c may = go n.kind n.number may
    where
      go : (kd : NodeKind) (i : ℕ) → MayGo w (record { kind = kd; number = i }) → CalmWorld b (step b w (entry.Go (record { kind = kd; number = i })))
      go kind.Repository i may = absurd (false≢true may.broker)
      go kind.Broker i may = go-calm b w c f i may

  learn-step : (w : World) (n : NodeId) (s : StampParts) (committed : Bool) → Facts-at w → CalmWorld b w → MayLearn w n s committed → CalmWorld b (step b w (entry.Learn n s committed))
  learn-step w n s committed f c may = go n.kind n.number may
    where
      go : (kd : NodeKind) (i : ℕ) → MayLearn w (record { kind = kd; number = i }) s committed → CalmWorld b (step b w (entry.Learn (record { kind = kd; number = i }) s committed))
      go kind.Broker i may = absurd (true≢false may.repository)
      go kind.Repository i may = learn-calm b w c f i (sym (c.ups (repository i)) ∙ may.up) s committed

  -- ---- the start

  pub empty-life : (n : NodeId) → (start_world b).life n ≡ opened_life b.start []
  empty-life n = (elim (opened_log b.opened n) as (λ o. opened_log b.opened n ≡ o → opened_life b.start (unwrap_or o []) ≡ opened_life b.start []) [ None ↦ λ e. refl | Some log ↦ λ e. ap (opened_life b.start) (r.empty n log e) ]) refl

  -- a broker that was never given anything
  blank-sound : (n : ℕ) → DeskSound b.script n b.run (tasks_of b n) (IsBegun (start_world b)) (IsDecided (start_world b)) (desk_at [] nothing_heard)
  unfolding keep book
  blank-sound n = record { past = refl; early = λ e. refl; trail = tt; settled = tt; started = tt; ended = refl; begun = λ s e. absurd (cc e); closed = λ s e. absurd (cc e) }

  start-calm : CalmWorld b (start_world b)
  start-calm = record {
    ups = λ n. refl;
    outside = λ n e. empty-life n;
    shut = λ n e. (refl, refl);
    still = λ s h. absurd h;
    untaken = λ k e. refl;
    rested = λ n g. absurd (false≢true g);
    sound = λ n. subst (λ (l : Life). DeskSound b.script n b.run (tasks_of b n) (IsBegun (start_world b)) (IsDecided (start_world b)) (desk_at (reverse (all_effects l)) nothing_heard)) (sym (empty-life (broker n))) (blank-sound n);
    said = λ n o h. absurd (elim h [ inl i ↦ i | inr i ↦ i ]);
    placed = λ n o g e. absurd (false≢true g);
    waits = λ m e h. absurd h;
    asked = λ m s e n. absurd (false≢true e);
    askers = λ m a h. absurd h;
  }

  -- ---- all entries

  take-step : (w : World) (n : NodeId) (k : ℕ) → Facts-at w → CalmWorld b w → MayTake fates w n k → CalmWorld b (step b w (entry.Take n k))
  take-step w n k f c may = go n.kind n.number may
    where
      go : (kd : NodeKind) (i : ℕ) → MayTake fates w (record { kind = kd; number = i }) k → CalmWorld b (step b w (entry.Take (record { kind = kd; number = i }) k))
      -- a request is answered or held, and what is waited for is asked for or told
      go kind.Repository i may = take-calm-there b w c f i (sym (c.ups (repository i)) ∙ may.up) k fates may
      -- a message is heeded, and the request that stands is owed; or it is ignored
      go kind.Broker i may = take-calm b w c f i k fates may

  pub no-moment : (w : World) (n : NodeId) → Facts-at w → MayHear w n → ⊥
  no-moment w n f may = (elim w.last as (λ l. w.last ≡ l → ⊥) [ None ↦ λ e. false≢true (sym (ap is_some e) ∙ may.some) | Some t ↦ λ e. f.models.ticked t (f.models.ticks t e) ]) refl

  one-step : (w : World) (e : Entry) → Facts-at w → CalmWorld b w → IsUnstopped e → Rule b fates w e → CalmWorld b (step b w e)
  one-step w (entry.Take n k) f c q rule = take-step w n k f c rule
  one-step w (entry.Go n) f c q rule = go-step w n f c rule
  one-step w (entry.Learn n s d) f c q rule = learn-step w n s d f c rule
  one-step w (entry.Hear n) f c q rule = absurd (no-moment w n f rule)
  one-step w (entry.Gate n) f c q rule = gate-calm b w c f n rule
  one-step w e f c q rule = absurd q

  quiet-tick : (e : Entry) → IsUnstopped e → (t : ℕ) → e ≡ entry.Tick t → ⊥
  quiet-tick e q t is = subst IsUnstopped is q

  -- what holds at the start, and is kept by each entry of a quiet trace, holds at each place, beside what the landed laws say and what always holds
  pub steps-with : (P : World → Type 0) → ((w : World) (e : Entry) → Facts-at w → CalmWorld b w → IsUnstopped e → Rule b fates w e → P w → P (step b w e)) →
      (w : World) (es : List Entry) → Facts-at w → CalmWorld b w → P w → Every IsUnstopped es → Meets b fates w es → Facts-at (walk_from b w es) × CalmWorld b (walk_from b w es) × P (walk_from b w es)
  unfolding walk_from Meets
  steps-with P one w [] f c p quiet rules = (f, c, p)
  steps-with P one w (e ∷ es) f c p quiet rules =
      steps-with P one (step b w e) es (step-refines r.script (node_turns r.script) (node_facts r.script) (node-laws r.script) b (λ n. []) (λ n. []) [] (λ t. ⊥) refl fates w e (quiet-tick e quiet.0) f rules.0)
      (one-step w e f c quiet.0 rules.0) (one w e f c quiet.0 rules.0 p) quiet.1 rules.1

  start-facts : Facts-at (start_world b)
  start-facts =
      opens r.script (node_turns r.script) (node_facts r.script) (node-laws r.script) b (λ n. []) (λ n. []) [] (λ t. ⊥) (λ t. ⊥) (λ t h. h) (left-nothing r.script (node_turns r.script) (node_facts r.script) (node-laws r.script) (past-laws r.script)) (λ n log e. r.empty n log e)
      (ready-start r.script (node_turns r.script) (node_facts r.script) (node-laws r.script) (past-laws r.script) b refl r.legal.ready)

-- what holds at the start, and is kept by each entry, holds at each calm place, beside what the landed laws say and what always holds
there : (p : CalmPlace) (P : World → Type 0) → P (start_world (b p.run)) →
    ((w : World) (e : Entry) → Facts-at p.run w → CalmWorld (b p.run) w → IsUnstopped e → Rule (b p.run) (fates p.run) w e → P w → P (step (b p.run) w e)) →
    Facts-at p.run (world_at p) × CalmWorld (b p.run) (world_at p) × P (world_at p)
there p P start one =
    steps-with p.run P one (start_world (b p.run)) p.front (start-facts p.run) (start-calm p.run) start p.quiet
    (meets-front (b p.run) (fates p.run) (start_world (b p.run)) p.front p.rest (subst (Meets (b p.run) (fates p.run) (start_world (b p.run))) p.here p.run.legal.meets))

-- all that the landed laws say of nodes, with what isn't gated, at each calm place
pub facts-there : (p : CalmPlace) → Facts-at p.run (world_at p)
facts-there p = (there p (λ w. Unit {0}) tt (λ w e f c q rule h. h)).0

-- what always holds, holds at each calm place
pub calm-there : (p : CalmPlace) → CalmWorld (base_of p.run.script p.run.plan p.run.trace) (world_at p)
calm-there p = (there p (λ w. Unit {0}) tt (λ w e f c q rule h. h)).1

pub always : (p : CalmPlace) (P : World → Type 0) → P (start_world (b p.run)) →
    ((w : World) (e : Entry) → Facts-at p.run w → CalmWorld (b p.run) w → IsUnstopped e → Rule (b p.run) (fates p.run) w e → P w → P (step (b p.run) w e)) → P (world_at p)
always p P start one = (there p P start one).2

-- no calm place is stuck
pub never-stuck : (p : CalmPlace) → IsIdleAt p → AllDone p
never-stuck p = stuck-never p (calm-there p)
