-- The only Run in a calm broker's log is that of its run. So its log has no more effects than its acts and their attempts may have.
use Rattle.complete_law.proofs.Names.{Every, Decision, Effect, same_stamp, same_time, Got, Stored, ToRead, ToWrite, Tree, Heard, Reply, Adds, Hears, Ignored, Act, Book, Try, time_of, another, next_clock, shown_to, stop_of, after_act, after_tries, by_clock, by_stage, due, owed, start, try_or_spent, ends, News, Begun, Answered, Refusal, Over_there, Decided, row, news, when, decided_commit, decided_early, Stage, Refused, Opening, Asking, Finishing, Stopping, Closing, is_closed, is_finished, stage, standing, broker, Task, Desk, desk_turn, fuel, hears, note_if, reply, say, settle_up, state, Entry, gives, Learning, Base, Life, Sending, World, gated_life, lives_on, names, numbered, start_world, step, after_input, took, all_effects, CalmPlace, IsUnstopped, world_at, ◌≡◌, ℕ, zero, suc, nat_lt, Bool, true, false, ◌&&◌, length, List, [], ◌∷◌, ◌++◌, reverse, refl, sym, ap, subst, Option, Some, None, if◌then◌else◌, append-nil, slice_get, Hearing}
use Rattle.pseudo_time.specs.declared.decisions.Decision.TheVariants as decision
use Rattle.effect_form.specs.declared.effects.Effect.TheVariants as effect
use Rattle.effect_form.specs.declared.outcomes.Outcome.TheVariants as outcome
use Rattle.broker_core.specs.Turns as desks
use Rattle.broker_core.specs.Turns.{note, send}
use Rattle.world_core.specs.declared.entries.Entry.TheVariants as entry
use Rattle.world_core.specs.Walks as walks
use Rattle.complete_law.proofs.Frames.{desk-after, goes, life-with, takes, turned}
use Rattle.complete_law.proofs.Places.{desk_of, log_of, tasks_of}
use Rattle.complete_law.proofs.Sizes.{IsOfRun}
use Rattle.complete_law.proofs.Steps as steps

module _ (script : List ℕ → Tree) (me run : ℕ) (acts : List Task) where
  abbrev OptOf : Option Effect → Type 0
  OptOf None = Unit {0}
  OptOf (Some f) = IsOfRun run f

  start-of : (o : Option Task) → OptOf (start o)
  start-of None = tt
  start-of (Some a) = tt

  clock-of : (b : Book) (a : Act) (o : Option ℕ) → IsOfRun run (by_clock me b a o)
  clock-of b a (Some c) = tt
  clock-of b a None = tt

  tries-of' : (h : Heard) (b : Book) (a : Act) (ts : List Try) (n : ℕ) → OptOf (after_tries me acts h b a ts n)
  tries-of' h b a [] n = clock-of b a (next_clock b.clock (shown_to b a))
  tries-of' h b a (t ∷ ts) n = go (is_closed h t) (another a.task.tries (t ∷ ts))
    where
      go : (c m : Bool) → OptOf (if c then (if m then Some (try_or_spent me b a) else start (slice_get acts n)) else None)
      go false m = tt
      go true true = clock-of b a (next_clock b.clock (shown_to b a))
      go true false = start-of (slice_get acts n)

  act-of : (h : Heard) (b : Book) (a : Act) (o : Option ℕ) (n : ℕ) → OptOf (after_act me acts h b a o n)
  act-of h b a None n = tries-of' h b a a.tries n
  act-of h b a (Some c) n = start-of (slice_get acts n)

  due-of : (h : Heard) (b : Book) (as' : List Act) → OptOf (due me acts h b as')
  due-of h b [] = start-of (slice_get acts 0)
  due-of h b (a ∷ done) = act-of h b a a.spent (length (a ∷ done))

  stage-of : (h : Heard) (b : Book) (st : Stage) → OptOf (by_stage me acts h b st)
  stage-of h b (Stopping t o) = tt
  stage-of h b x = due-of h b b.acts

  owed-of : (b : Book) (h : Heard) → OptOf (owed script me run acts b h)
  owed-of b h = elim (nat_lt b.run run) as (λ c. OptOf (if c then Some (effect.Run run) else by_stage me acts h b (stage script run b h))) [ true ↦ refl | false ↦ stage-of h b (stage script run b h) ]

  abbrev OfRun : Desk → Type 0
  OfRun d = Every (IsOfRun run) (desks.all_effects d)

  settle-of : (n : ℕ) (d : Desk) → OfRun d → OfRun (settle_up script me run acts n d)
  unfolding settle_up
  settle-of zero d k = k
  settle-of (suc n) d k = go (λ e j. settle-of n e j) (owed script me run acts (state script me run acts d) d.heard) (owed-of (state script me run acts d) d.heard)
    where
      go : ((e : Desk) → OfRun e → OfRun (settle_up script me run acts n e)) → (o : Option Effect) → OptOf o → OfRun (note_if (settle_up script me run acts n) o d)
      go again None i = k
      go again (Some f) i = again (note f d) (i, k)

  say-of : (d : Desk) → OfRun d → OfRun (say script me run acts d)
  say-of d k = elim (standing (stage script run (state script me run acts d) d.heard)) as (λ o. OfRun (send o d)) [ None ↦ k | Some o ↦ k ]

  abbrev ReplyOf : Reply → Type 0
  ReplyOf (Adds f) = IsOfRun run f
  ReplyOf _ = Unit {0}

  when-of : (c : Bool) (r : Reply) → ReplyOf r → ReplyOf (when c r)
  when-of true r k = k
  when-of false r k = tt

  commit-of : (t : Try) (d : Decision) → ReplyOf (decided_commit t d)
  commit-of t decision.Committed = tt
  commit-of t _ = tt

  early-of : (c : Bool) (t : Try) (d : Decision) → ReplyOf (decided_early c t d)
  early-of c t decision.Committed = when-of c (ends t outcome.Committed) tt
  early-of c t _ = tt

  row-of : (st : Stage) (h : Heard) (n : News) → ReplyOf (row script st h n)
  row-of (Opening t) h (Begun s) = when-of (same_stamp t.stamp s) (Hears (record h { begun = Some t.stamp })) tt
  row-of (Opening t) h (Decided s d) = when-of (same_stamp t.stamp s) (decided_early (is_finished (stop_of script t)) t d) (early-of (is_finished (stop_of script t)) t d)
  row-of (Asking t (ToRead o)) h (Answered x (Got v)) = when-of (same_time (time_of t) x) (Adds (effect.Got x.step v)) tt
  row-of (Asking t (ToRead o)) h (Refusal x e true) = when-of (same_time (time_of t) x) (ends t (outcome.LaterRead o e)) tt
  row-of (Asking t (ToWrite o v)) h (Answered x Stored) = when-of (same_time (time_of t) x) (Adds (effect.Acked x.step)) tt
  row-of (Asking t (ToWrite o v)) h (Refusal x e true) = when-of (same_time (time_of t) x) (ends t (outcome.LaterRead o e)) tt
  row-of (Asking t (ToWrite o v)) h (Refusal x e false) = when-of (same_time (time_of t) x) (ends t (outcome.LaterVersion o e)) tt
  row-of (Asking t q) h (Over_there x) = when-of (same_time (time_of t) x) (Hears (record h { ended = Some (time_of t) })) tt
  row-of (Finishing t) h (Decided s d) = when-of (same_stamp t.stamp s) (decided_commit t d) (commit-of t d)
  row-of (Refused t) h (Decided s d) = when-of (same_stamp t.stamp s) (decided_early false t d) (early-of false t d)
  row-of (Closing t) h (Decided s d) = when-of (same_stamp t.stamp s) (Hears (record h { closed = Some t.stamp })) tt
  row-of _ h _ = tt

  reply-of : (d : Desk) (r : Reply) → ReplyOf r → OfRun d → OfRun (reply script me run acts d r)
  reply-of d Ignored i k = k
  reply-of d (Hears h) i k = say-of (settle_up script me run acts (fuel acts) (hears h d)) (settle-of (fuel acts) (hears h d) k)
  reply-of d (Adds f) i k = say-of (settle_up script me run acts (fuel acts) (note f d)) (settle-of (fuel acts) (note f d) (i, k))

  turn-of : (d : Desk) (i : desks.Input) → OfRun d → OfRun (desk_turn script me run acts d i)
  turn-of d desks.Go k = say-of (settle_up script me run acts (fuel acts) (hears (record d.heard { gone = true }) d)) (settle-of (fuel acts) (hears (record d.heard { gone = true }) d) k)
  turn-of d (desks.Hear m) k = say-of d k
  turn-of d (desks.Take from m) k = reply-of d (row script (stage script run (state script me run acts d) d.heard) d.heard (news m)) (row-of (stage script run (state script me run acts d) d.heard) d.heard (news m)) k

module _ (p : CalmPlace) where
  abbrev base : Base
  base = steps.b p.run

  abbrev Only : World → Type 0
  Only w = (n : ℕ) → Every (IsOfRun base.run) (log_of w (broker n))

  hear-turn : (w : World) (n t : ℕ) → after_input base (broker n) (w.life (broker n)) (Hearing t) ≡ life-with base (w.life (broker n)) (turned base w n (desks.Hear t))
  unfolding gives
  hear-turn w n t = refl

  same-log : (w : World) (n : ℕ) (l : Life) → reverse (all_effects l) ≡ log_of w (broker n) → Only w → Every (IsOfRun base.run) (reverse (all_effects l))
  same-log w n l e k = subst (Every (IsOfRun base.run)) (sym e) (k n)

  turn-log : (w : World) (n : ℕ) (i : desks.Input) (l : Life) → l ≡ life-with base (w.life (broker n)) (turned base w n i) → Only w → Every (IsOfRun base.run) (reverse (all_effects l))
  turn-log w n i l e k =
      subst (λ z. Every (IsOfRun base.run) (reverse (all_effects z))) (sym e) (subst (Every (IsOfRun base.run)) (sym (desk-after base w n i).0) (turn-of base.script n base.run (tasks_of base n) (desk_of base w n) i (k n)))

  one-life : (w : World) (e : Entry) (n : ℕ) → IsUnstopped e → Only w → Every (IsOfRun base.run) (reverse (all_effects (lives_on base w (broker n) (w.life (broker n)) e)))
  unfolding gives
  one-life w (entry.Take m k) n q only = go (numbered w.sendings k)
    where
      go : (s : Option Sending) → Every (IsOfRun base.run) (reverse (all_effects (took base (broker n) (w.life (broker n)) s)))
      go None = only n
      go (Some s) = turn-log w n (desks.Take s.post.from s.post.message) _ (takes base w n s.post.from s.post.message) only
  one-life w (entry.Go m) n q only = turn-log w n desks.Go _ (goes base w n) only
  one-life w (entry.Learn m s c) n q only =
      let l : Life = w.life (broker n) in
      same-log w n (after_input base (broker n) l (Learning s c)) (ap (λ z. reverse (l.gated ++ z)) (append-nil l.fresh)) only
  one-life w (entry.Hear m) n q only = elim w.last as (λ t. Every (IsOfRun base.run) (reverse (all_effects (walks.hears base (broker n) (w.life (broker n)) t)))) [ None ↦ only n | Some t ↦ turn-log w n (desks.Hear t) _ (hear-turn w n t) only ]
  one-life w (entry.Gate m) n q only = same-log w n (gated_life (w.life (broker n))) (ap reverse (append-nil (all_effects (w.life (broker n))))) only
  one-life w e n q only = absurd q

  one-entry : (w : World) (e : Entry) → IsUnstopped e → Only w → Only (step base w e)
  one-entry w e q only n = go (names (broker n) e && (w.flags (broker n)).known)
    where
      go : (c : Bool) → Every (IsOfRun base.run) (reverse (all_effects (if c then lives_on base w (broker n) (w.life (broker n)) e else w.life (broker n))))
      go true = one-life w e n q only
      go false = only n

  starts : Only (start_world base)
  starts n = subst (λ (l : Life). Every (IsOfRun base.run) (reverse (all_effects l))) (sym (steps.empty-life p.run (broker n))) tt

  -- the only Runs in a broker's log are those of its run
  pub only-runs : Only (world_at p)
  only-runs = steps.always p Only starts (λ w e f c q r k. one-entry w e q k)
