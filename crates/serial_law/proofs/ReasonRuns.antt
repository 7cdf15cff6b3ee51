-- Refusals and causes by two readings of scripts.
use Rattle.serial_law.proofs.Names.{Has, repository, TimeParts, ObjectId, Value, NodeId, Effect, Outcome, WriteStep, read_step, write_step, Request, ToRead, ToWrite, Tree, after, Plan, marks, reading, Scripted, Entry, Trace, WasAnswered, WasRefused, RunLogs, Try, in_run, log_of, base_of, alike, own_reading, AreEarlier, AreOfLanguage, Earlier, Running, Retiring, Base, World, own-reading, walk-same, Happened, HasReason, HasStood, asked_of, asks, AnsweredBy, RefusedBy, InSome, ◌≡◌, ◌⊎◌, inl, inr, ℕ, true, List, [], ◌∷◌, reverse, subst, Some, all_effects, numbered}
use Rattle.pseudo_time.specs.declared.decisions.Decision.TheVariants as decision
use Rattle.effect_form.specs.declared.effects.Effect.TheVariants as effect
use Rattle.effect_form.specs.declared.outcomes.Outcome.TheVariants as outcome
use Rattle.object_history.specs.declared.steps.ReadStep.TheVariants as read

-- ---- refusals

answered-same : (s s' : List ℕ → Tree) (plan : Plan) → Scripted s plan.acts → Scripted s' plan.acts → (t : Trace) (es : List Entry) (x : TimeParts) (o : ObjectId) (v : Value) (step : WriteStep) →
    WasAnswered (base_of s plan t) es x o v step → WasAnswered (base_of s' plan t) es x o v step
answered-same s s' plan h h' t es x o v step a =
    let e = walk-same s s' plan h h' t a.before in
    record {
      before = a.before;
      number = a.number;
      after = a.after;
      sending = a.sending;
      here = a.here;
      sent = subst (λ (w : World). numbered w.sendings a.number ≡ Some a.sending) e a.sent;
      is_write = a.is_write;
      answer = subst (λ (w : World). write_step (marks (reverse (all_effects (w.life (repository o.repository))))) o x v ≡ step) e a.answer;
    }

refused-same : (s s' : List ℕ → Tree) (plan : Plan) → Scripted s plan.acts → Scripted s' plan.acts → (t : Trace) (es : List Entry) (x : TimeParts) (o : ObjectId) (end : TimeParts) →
    WasRefused (base_of s plan t) es x o end → WasRefused (base_of s' plan t) es x o end
refused-same s s' plan h h' t es x o end a =
    let e = walk-same s s' plan h h' t a.before in
    record {
      before = a.before;
      number = a.number;
      after = a.after;
      sending = a.sending;
      here = a.here;
      sent = subst (λ (w : World). numbered w.sendings a.number ≡ Some a.sending) e a.sent;
      is_read = a.is_read;
      answer = subst (λ (w : World). read_step (marks (reverse (all_effects (w.life (repository o.repository))))) o x ≡ read.LaterRead end) e a.answer;
    }

-- P holds of a run by the reading of its own acts where it holds of it by this one
abbrev pub ByOwn : (List ℕ → Tree) → (Base → List Entry → Type 0) → Type 0
ByOwn script P = (plan : Plan) → Scripted script plan.acts → Scripted (reading plan.acts) plan.acts → (t : Trace) → P (base_of script plan t) t.entries → P (base_of (reading plan.acts) plan t) t.entries

some-from : (script : List ℕ → Tree) (P : Base → List Entry → Type 0) → ByOwn script P → (cs : List Earlier) → AreEarlier (alike script) cs → AreOfLanguage cs → InSome (alike script) P cs → InSome own_reading P cs
some-from script P own [] k w a = a
some-from script P own (Retiring r at ∷ cs) k w a = some-from script P own cs k.0 w a
some-from script P own (Running c ∷ cs) k w (inl a) = inl (own c.plan k.1.legal.scripted (own-reading c.plan w.0) c.trace a)
some-from script P own (Running c ∷ cs) k w (inr a) = inr (some-from script P own cs k.0 w.1 a)

-- in a run, or in one of the calls before it
module _ (script : List ℕ → Tree) (plan : Plan) (t : Trace) (h : Scripted script plan.acts) (own : Scripted (reading plan.acts) plan.acts) (cs : List Earlier) (k : AreEarlier (alike script) cs) (w : AreOfLanguage cs) where
  pub some-own : (P : Base → List Entry → Type 0) → ByOwn script P → P (base_of script plan t) t.entries ⊎ InSome (alike script) P cs → P (base_of (reading plan.acts) plan t) t.entries ⊎ InSome own_reading P cs
  some-own P by (inl a) = inl (by plan h own t a)
  some-own P by (inr a) = inr (some-from script P by cs k w a)

  pub answered-own : (x : TimeParts) (o : ObjectId) (v : Value) (step : WriteStep) →
      WasAnswered (base_of script plan t) t.entries x o v step ⊎ InSome (alike script) (λ b es. WasAnswered b es x o v step) cs → AnsweredBy plan t cs x o v step
  answered-own x o v step = some-own (λ b es. WasAnswered b es x o v step) (λ c h' own' t'. answered-same script (reading c.acts) c h' own' t' t'.entries x o v step)

  pub refused-own : (x : TimeParts) (o : ObjectId) (e : TimeParts) →
      WasRefused (base_of script plan t) t.entries x o e ⊎ InSome (alike script) (λ b es. WasRefused b es x o e) cs → RefusedBy plan t cs x o e
  refused-own x o e = some-own (λ b es. WasRefused b es x o e) (λ c h' own' t'. refused-same script (reading c.acts) c h' own' t' t'.entries x o e)

-- ---- causes

module _ (k k' : RunLogs) (same : (r : ℕ) → in_run k r ≡ true → log_of k r ≡ log_of k' r) (olds olds' : NodeId → List (List Effect)) (same_olds : (n : NodeId) → olds n ≡ olds' n) (h h' : Happened)
    (ticked : (m : ℕ) → h.Ticked m → h'.Ticked m) (answered : (x : TimeParts) (o : ObjectId) (v : Value) (step : WriteStep) → h.Answered x o v step → h'.Answered x o v step)
    (refused : (x : TimeParts) (o : ObjectId) (e : TimeParts) → h.Refused x o e → h'.Refused x o e) where
  stood-same : (r : ℕ) (e : Effect) → in_run k r ≡ true → HasStood k olds r e → HasStood k' olds' r e
  stood-same r e i (inl j) = inl (subst (Has e) (same r i) j)
  stood-same r e i (inr (old, j, there)) = inr (old, subst (Has old) (same_olds (repository r)) j, there)

  either-same : (r : ℕ) (e g : Effect) → in_run k r ≡ true → HasStood k olds r e ⊎ HasStood k olds r g → HasStood k' olds' r e ⊎ HasStood k' olds' r g
  either-same r e g i (inl j) = inl (stood-same r e i j)
  either-same r e g i (inr j) = inr (stood-same r g i j)

  pub reason-same : (try : Try) (o : Outcome) → in_run k try.stamp.home ≡ true → ((q : Request) → asks (after try.script try.answers) ≡ Some q → in_run k (asked_of q).repository ≡ true) →
      HasReason k olds h try o → HasReason k' olds' h' try o
  reason-same try outcome.Committed home within c = subst (Has (effect.Decide try.stamp decision.Committed)) (same try.stamp.home home) c
  reason-same try (outcome.Expired d m) home within c = (
    subst (Has (effect.Decide try.stamp (decision.Expired d m))) (same try.stamp.home home) c.0,
    subst (Has (effect.Begin try.stamp d)) (same try.stamp.home home) c.1,
    c.2,
    ticked m c.3,
  )
  reason-same try (outcome.LaterRead o e) home within (less, inl (v, writes, stood, was)) =
      (less, inl (v, writes, either-same o.repository (effect.Stretch o e) (effect.Mark e) (within (ToWrite o v) writes) stood, answered _ o v _ was))
  reason-same try (outcome.LaterRead o e) home within (less, inr (reads, stood, was)) = (less, inr (reads, stood-same o.repository (effect.Mark e) (within (ToRead o) reads) stood, refused _ o e was))
  reason-same try (outcome.LaterVersion o x) home within (v, writes, less, (u, stood), was) = (v, writes, less, (u, stood-same o.repository (effect.Put o x u) (within (ToWrite o v) writes) stood), answered _ o v _ was)
  reason-same try _ home within c = c
