-- The laws of legal traces, from the facts of their logs and messages.
use Rattle.serial_law.proofs.Names.{Every, Has, StampParts, TimeParts, Decision, NodeId, every-has, has-either, has-left, has-right, and-both, ObjectId, Value, Effect, Message, Post, WasSent, each_below, book, tries, broker, repository, WriteSent, decide-home, decided-once, MayTry, IsPlayed, IsProven, distinct, played, proven, WriteStep, Entry, WasAnswered, WasRefused, Base, opened_log, sent_by, start_world, walk, Meets, base_of, fates_of, alike, Reason, meets-front, post-answered, write-sent, read-sent, node_facts, AreEarlier, Earlier, replaced, sent_earlier, Running, Retiring, logs_at, broker-post, older-facts, RunFacts, AnsweredBefore, InSome, Position, RefusedBefore, TickedBefore, happened_before, log_at, olds_at, run_at, sent_before, whole_at, world_at, Causes, IsSpent, Serial, KeepsPuts, last_values, value_at, committed, finals, each-has, ◌≡◌, inl, inr, ℕ, Bool, ◌≤◌, true, List, [], ◌∷◌, ◌++◌, map, reverse, refl, ◌∙◌, subst, is_some, nat_le, le-leb, every-left, IsDecidedAt, learned-elsewhere}
use Rattle.pseudo_time.specs.declared.decisions.Decision.TheVariants as decision
use Rattle.effect_form.specs.declared.effects.Effect.TheVariants as effect
use Rattle.message_form.specs.declared.messages.Message.TheVariants as message
use Rattle.effect_form.specs.declared.outcomes.Outcome.TheVariants as outcome
use Rattle.repository_laws.specs.Facts as repositories
use Rattle.broker_laws.specs.Fits as brokers
use Rattle.broker_laws.specs.Posts.{Distinct, IsWithinLimits, PostHolds}
use Rattle.broker_laws.proofs.Limits.{within}
use Rattle.stream_port.specs.declared.fates.Fate.{Fate}
use Rattle.world_core.proofs.Refusals.{Says, says-map}
use Rattle.world_core.specs.Deeds.{Try}
use Rattle.world_facts.specs.Refines as refines
use Rattle.serial_law.proofs.PlannedRuns.{run-above, run-booked}
use Rattle.value_form.specs.declared.acts.ActSpec.{ActSpec}
use Rattle.world_core.specs.Deeds as deeds
use Rattle.serial_law.proofs.RunFacts.{IsBooked, run-facts, run-causes, ToldRequest}
use Rattle.serial_law.proofs.Main.{serial}
use Rattle.serial_law.proofs.Standing.{finals-stand, no-here, puts-stand, yes-here}
use Rattle.serial_law.proofs.WholeFacts.{kept-or-gone, same-last}

module _ (p : Position) where
  -- all that holds of logs and messages there
  pub place-facts : refines.OlderFacts (node_facts p.script) (base_of p.script p.plan p.trace) (logs_at p.logs (world_at p)) (replaced (alike p.script) p.past.0) (sent_earlier (alike p.script) p.past.0)
      (sent_by (world_at p)) (TickedBefore p)
  place-facts = older-facts p.script p.plan p.asked p.trace p.logs p.front p.rest p.past p.agrees p.legal p.here

  abbrev ever : List Post
  ever = sent_before p

  brokers-opened : (k : ℕ) → 1 ≤ k → k ≤ p.plan.brokers → is_some (opened_log p.trace.opened (broker k)) ≡ true
  brokers-opened k low high = p.legal.nodes.just (broker k) ∙ and-both (nat_le 1 k) (nat_le k p.plan.brokers) (le-leb 1 k low) (le-leb k p.plan.brokers high)

  booked : (a : Try) → Has a (run_at p).tries → IsBooked p.script (log_at p) p.plan.repositories a
  booked =
      run-booked p.script (base_of p.script p.plan p.trace) p.plan (logs_at p.logs (world_at p)) (replaced (alike p.script) p.past.0) (sent_earlier (alike p.script) p.past.0) (sent_by (world_at p)) (TickedBefore p) refl refl p.whole
      p.legal.scripted brokers-opened place-facts

  pub place-serial-facts : RunFacts (whole_at p) ever
  place-serial-facts =
      run-facts p.script (base_of p.script p.plan p.trace) p.plan.repositories (run_at p).tries (logs_at p.logs (world_at p)) (replaced (alike p.script) p.past.0) (sent_earlier (alike p.script) p.past.0) (sent_by (world_at p)) (TickedBefore p)
      place-facts booked

  pub place-serial : Serial (whole_at p)
  place-serial = serial (whole_at p) ever place-serial-facts

  pub place-above : (c : ℕ) → Every (λ (a : ActSpec). c ≤ a.clock) p.plan.acts → (a : deeds.Try) → Has a (run_at p).tries → c ≤ a.stamp.clock
  place-above =
      run-above p.script (base_of p.script p.plan p.trace) p.plan (logs_at p.logs (world_at p)) (replaced (alike p.script) p.past.0) (sent_earlier (alike p.script) p.past.0) (sent_by (world_at p)) (TickedBefore p) refl refl p.whole
      p.legal.scripted brokers-opened place-facts

  pub place-puts : KeepsPuts (run_at p)
  place-puts =
      puts-stand (olds_at p) (run_at p) ever place-serial-facts
      (λ r. kept-or-gone p.script (base_of p.script p.plan p.trace) (logs_at p.logs (world_at p)) (replaced (alike p.script) p.past.0) (sent_earlier (alike p.script) p.past.0) (sent_by (world_at p)) (TickedBefore p) place-facts r)

  pub place-finals : (o : ObjectId) → value_at (last_values (run_at p)) o ≡ value_at (finals (whole_at p)) o
  place-finals =
      finals-stand (olds_at p) (run_at p) ever place-serial-facts
      (λ r o here. same-last p.script (base_of p.script p.plan p.trace) (logs_at p.logs (world_at p)) (replaced (alike p.script) p.past.0) (sent_earlier (alike p.script) p.past.0) (sent_by (world_at p)) (TickedBefore p) place-facts r o
      (committed (run_at p)) (λ s h. no-here (olds_at p) (run_at p) ever place-serial-facts r s here h) (λ s h. yes-here (olds_at p) (run_at p) ever place-serial-facts r s here h))

  -- what repositories answered to writes, and how they refused reads
  abbrev Answers : Type 1
  Answers = TimeParts → ObjectId → Value → WriteStep → Type 0

  abbrev Refusals : Type 1
  Refusals = TimeParts → ObjectId → TimeParts → Type 0

  -- whatever was answered, or refused, so was that too
  abbrev More : Answers → Answers → Type 0
  More A B = (x : TimeParts) (o : ObjectId) (v : Value) (s : WriteStep) → A x o v s → B x o v s

  abbrev MoreRefused : Refusals → Refusals → Type 0
  MoreRefused A B = (x : TimeParts) (o : ObjectId) (e : TimeParts) → A x o e → B x o e

  -- of a message that was sent later too
  left-told : (xs ys : List Post) (r : ℕ) (A B : Answers) (R S : Refusals) → More A B → MoreRefused R S → (m : Message) → Says (ToldRequest xs r A R) m → Says (ToldRequest (xs ++ ys) r B S) m
  left-told xs ys r A B R S f g m h = says-map (ToldRequest xs r A R) (ToldRequest (xs ++ ys) r B S) one m h
    where
      one : (x : TimeParts) (s : WriteStep) → ToldRequest xs r A R x s → ToldRequest (xs ++ ys) r B S x s
      one x s (inl z) = inl (z.0, z.1, (has-left xs ys _ z.2.0, z.2.1), f x z.0 z.1 s z.3)
      one x s (inr z) = inr (z.0, z.1, z.2, (has-left xs ys _ z.3.0, z.3.1), g x z.0 z.1 z.4)

  right-told : (xs ys : List Post) (r : ℕ) (A B : Answers) (R S : Refusals) → More A B → MoreRefused R S → (m : Message) → Says (ToldRequest ys r A R) m → Says (ToldRequest (xs ++ ys) r B S) m
  right-told xs ys r A B R S f g m h = says-map (ToldRequest ys r A R) (ToldRequest (xs ++ ys) r B S) one m h
    where
      one : (x : TimeParts) (s : WriteStep) → ToldRequest ys r A R x s → ToldRequest (xs ++ ys) r B S x s
      one x s (inl z) = inl (z.0, z.1, (has-right xs ys _ z.2.0, z.2.1), f x z.0 z.1 s z.3)
      one x s (inr z) = inr (z.0, z.1, z.2, (has-right xs ys _ z.3.0, z.3.1), g x z.0 z.1 z.4)

  -- what a repository refused in a run
  here-told : (b : Base) (fates : List Fate) (es : List Entry) → Meets b fates (start_world b) es → (r : ℕ) (q : Post) → Has q (sent_by (walk b es)) → q.from ≡ repository r →
      Says (ToldRequest (sent_by (walk b es)) r (WasAnswered b es) (WasRefused b es)) q.message
  here-told b fates es meets r q h e = says-map (Reason b es r) (ToldRequest (sent_by (walk b es)) r (WasAnswered b es) (WasRefused b es)) one q.message (post-answered b fates es meets q h r e)
    where
      one : (x : TimeParts) (s : WriteStep) → Reason b es r x s → ToldRequest (sent_by (walk b es)) r (WasAnswered b es) (WasRefused b es) x s
      one x s (inl z) =
          inl (z.0, z.1, (subst (λ j. Has (record { from = broker x.stamp.broker; to = repository j; message = message.Write x z.0 z.1 }) (sent_by (walk b es))) z.2 (write-sent b es x z.0 z.1 s z.3), z.2), z.3)
      one x s (inr z) =
          inr (z.0, z.1, z.2, (subst (λ j. Has (record { from = broker x.stamp.broker; to = repository j; message = message.Read x z.0 }) (sent_by (walk b es))) z.3 (read-sent b es x z.0 z.1 z.4), z.3), z.4)

  -- in the calls of a past
  abbrev answered_in : List Earlier → Answers
  answered_in cs x o v s = InSome (alike p.script) (λ b es. WasAnswered b es x o v s) cs

  abbrev refused_in : List Earlier → Refusals
  refused_in cs x o e = InSome (alike p.script) (λ b es. WasRefused b es x o e) cs

  past-told : (cs : List Earlier) → AreEarlier (alike p.script) cs → (r : ℕ) (q : Post) → Has q (sent_earlier (alike p.script) cs) → q.from ≡ repository r → Says (ToldRequest (sent_earlier (alike p.script) cs) r (answered_in cs) (refused_in cs)) q.message
  past-told [] c r q h e = absurd h
  past-told (Retiring k at ∷ cs) calls r q h e = past-told cs calls.0 r q h e
  past-told (Running c ∷ cs) calls r q h e =
      let b : Base = base_of p.script c.plan c.trace in
      elim (has-either (sent_earlier (alike p.script) cs) (sent_by (walk b c.trace.entries)) q h) [
        | inl k ↦ left-told (sent_earlier (alike p.script) cs) (sent_by (walk b c.trace.entries)) r (answered_in cs) (answered_in (Running c ∷ cs)) (refused_in cs) (refused_in (Running c ∷ cs)) (λ x o v s a. inr a) (λ x o z a. inr a)
            q.message (past-told cs calls.0 r q k e)
        | inr k ↦ right-told (sent_earlier (alike p.script) cs) (sent_by (walk b c.trace.entries)) r (WasAnswered b c.trace.entries) (answered_in (Running c ∷ cs)) (WasRefused b c.trace.entries) (refused_in (Running c ∷ cs))
            (λ x o v s a. inl a) (λ x o z a. inl a) q.message (here-told b (fates_of c.trace.sent) c.trace.entries calls.1.legal.meets r q k e)
      ]

  tells : (r : ℕ) (q : Post) → Has q ever → q.from ≡ repository r → Says (ToldRequest ever r (AnsweredBefore p) (RefusedBefore p)) q.message
  tells r q h e =
      let b : Base = base_of p.script p.plan p.trace in
      let meets = meets-front b (fates_of p.trace.sent) (start_world b) p.front p.rest (subst (Meets b (fates_of p.trace.sent) (start_world b)) p.here p.legal.meets) in
      elim (has-either (sent_earlier (alike p.script) p.past.0) (sent_by (world_at p)) q h) [
        | inl k ↦ left-told (sent_earlier (alike p.script) p.past.0) (sent_by (world_at p)) r (answered_in p.past.0) (AnsweredBefore p) (refused_in p.past.0) (RefusedBefore p) (λ x o v s a. inr a) (λ x o z a. inr a)
            q.message (past-told p.past.0 p.past.1 r q k e)
        | inr k ↦ right-told (sent_earlier (alike p.script) p.past.0) (sent_by (world_at p)) r (WasAnswered b p.front) (AnsweredBefore p) (WasRefused b p.front) (RefusedBefore p) (λ x o v s a. inl a) (λ x o z a. inl a)
            q.message (here-told b (fates_of p.trace.sent) p.front meets r q k e)
      ]

  pub place-causes : Causes (run_at p) (olds_at p) (happened_before p)
  place-causes =
      run-causes p.script (base_of p.script p.plan p.trace) p.plan.repositories (run_at p).tries (logs_at p.logs (world_at p)) (replaced (alike p.script) p.past.0) (sent_earlier (alike p.script) p.past.0) (sent_by (world_at p)) (TickedBefore p)
      place-facts booked (AnsweredBefore p) (RefusedBefore p) tells

  -- ---- logs of repositories

  pub repository-tidy : (r : ℕ) → repositories.IsTidy r (log_at p (repository r))
  repository-tidy r = place-facts.tidy (repository r)

  caused : (r : ℕ) (e : Effect) → Has e (log_at p (repository r)) → repositories.RestsOn ever (λ k. log_at p (repository k)) place-facts.ticks r e
  caused r e h = (each-has _ (log_at p (repository r)) e (place-facts.proofs (repository r)) h).1

  pub put-asked : (r : ℕ) (o : ObjectId) (x : TimeParts) (v : Value) → Has (effect.Put o x v) (log_at p (repository r)) → WriteSent ever r x o v
  put-asked r o x v h = caused r (effect.Put o x v) h

  pub commit-asked : (r : ℕ) (s : StampParts) → Has (effect.Decide s decision.Committed) (log_at p (repository r)) → WasSent ever (broker s.broker) (repository r) (message.Commit s)
  commit-asked r s h = caused r (effect.Decide s decision.Committed) h

  pub learned-there : (r : ℕ) (s : StampParts) (c : Bool) → Has (effect.Learn s c) (log_at p (repository r)) → IsDecidedAt (λ k. log_at p (repository k)) s c
  learned-there r s c h = caused r (effect.Learn s c) h

  pub decided-home : (r : ℕ) (s : StampParts) (d : Decision) → Has (effect.Decide s d) (log_at p (repository r)) → s.home ≡ r
  decided-home r s d h = decide-home r (log_at p (repository r)) s d (repository-tidy r) h

  pub same-decision : (r : ℕ) (s : StampParts) (d e : Decision) → Has (effect.Decide s d) (log_at p (repository r)) → Has (effect.Decide s e) (log_at p (repository r)) → d ≡ e
  same-decision r s d e h k = decided-once r (log_at p (repository r)) s d e (repository-tidy r) h k

  pub never-both : (r : ℕ) (s : StampParts) (d : Decision) (c : Bool) → Has (effect.Decide s d) (log_at p (repository r)) → Has (effect.Learn s c) (log_at p (repository r)) → ⊥
  never-both r s d c h k = learned-elsewhere r (log_at p (repository r)) s d c (repository-tidy r) h k

  -- ---- logs of brokers

  pub broker-tidy : (b : ℕ) → brokers.IsTidy p.script b (log_at p (broker b))
  broker-tidy b = place-facts.tidy (broker b)

  pub stamps-apart : (b : ℕ) → Distinct (tries (book (log_at p (broker b))))
  stamps-apart b = distinct p.script b (log_at p (broker b)) (broker-tidy b)

  pub answers-asked : (b : ℕ) → Every (IsPlayed p.script) (tries (book (log_at p (broker b))))
  answers-asked b = played p.script b (log_at p (broker b)) (broker-tidy b)

  pub answers-sent : (b : ℕ) → Every (IsProven b ever) (tries (book (log_at p (broker b))))
  answers-sent b = proven p.script b ever (log_at p (broker b)) (broker-tidy b) (place-facts.proofs (broker b))

  pub requests-right : (b : ℕ) (to : NodeId) (m : Message) → Has (record { from = broker b; to = to; message = m }) ever → PostHolds p.script b (tries (book (log_at p (broker b)))) to m
  requests-right b to m h =
      broker-post p.script (base_of p.script p.plan p.trace) (logs_at p.logs (world_at p)) (replaced (alike p.script) p.past.0) (sent_earlier (alike p.script) p.past.0) (sent_by (world_at p)) (TickedBefore p) place-facts
      b (map reverse (replaced (alike p.script) p.past.0 (broker b))) (log_at p (broker b)) to m (place-facts.lineage (broker b)) (every-has _ ever (record { from = broker b; to = to; message = m }) place-facts.sent_ok h)

  pub place-limits : (b : ℕ) → Every IsWithinLimits (book (log_at p (broker b))).acts
  place-limits b = every-left IsWithinLimits (book (log_at p (broker b))).acts (book (log_at p (broker b))).past (within p.script b (log_at p (broker b)) (broker-tidy b))

  pub place-spent : (b i c : ℕ) (late early : List Effect) → log_at p (broker b) ≡ late ++ (effect.End i (outcome.Spent c) ∷ early) → MayTry i (book early).acts (IsSpent (book early) c)
  place-spent b i c late early e =
      let tidy : brokers.IsTidy p.script b (late ++ (effect.End i (outcome.Spent c) ∷ early)) = subst (brokers.IsTidy p.script b) e (broker-tidy b) in
      (each_below (brokers.FitsLog p.script b) (effect.End i (outcome.Spent c) ∷ early) late tidy).1
