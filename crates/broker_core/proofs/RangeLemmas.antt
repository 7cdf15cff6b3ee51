-- What a broker keeps stays in range, and what it gives is in range.
use Rattle.std.proofs.lemmas.Bool.Decides.{nat_tests}
use Rattle.std.proofs.Math.Nat.{max-le}
use Rattle.broker_core.proofs.Names.{Every, StampParts, TimeParts, same_stamp, same_time, Decision, ActSpec, block, Effect, Outcome, Message, Out, Turn, AreEffects, AreOuts, Stop, Asks, Over, ToRead, ToWrite, Given, Heard, Last, Notes, Phase, Reply, Ignored, Hears, Adds, is_none, next_clock, is_asking, task_of, is_stamp, is_time, when, act_at, answered_in, answers_given, another_at, changed, fits_try_at, index_of, most_of, open_last, passed, run_begun, stop_at, timeout_of, tree_of, unended, phase_of, phase_by_last, phase_by_stop, phase_by_open, phase_at, closed_in, standing_for, standing_by, standing_at, commit_answered, early_answered, opening_row, reading_row, writing_row, decided_of, decision_row, reply_for, reply_by, reply_at, start_at, shown_at, by_clock_at, try_or_spent_at, after_tries_at, due_at, by_phase, IsBrokerAct, AreNotes, LedgerParts, Settled, kept, owed_now, settle_on, settled, most_steps, fits_now, added, logged, led, fresh_ledger, listed, phase_in, effects_from, ledger_from, IsHeard, FirstInRange, ◌≡◌, ◌≢◌, ℕ, zero, suc, ◌+◌, ◌-◌, ◌<◌, ◌≤◌, ◌^◌, max, nat_lt, ◌==◌, Bool, true, false, cond, ◌&&◌, ◌||◌, take, length, List, [], ◌∷◌, ◌++◌, reverse, refl, sym, ◌∙◌, ap, subst, Option, Some, None, if◌then◌else◌, arith, slice_get, option_map, eqb-true, false≢true, reverse-reverse, IsStamp, IsTime, IsEffect, act_effect, end_noted, home_of, shown_by, time_at, closed_at, ends_at, ended_row, AreBrokerActs, GivenInRange, HasStamp, AreInRange, Ranged}
use Rattle.broker_ledger.specs.Decision.TheVariants as decision
use Rattle.broker_ledger.proofs.ListLemmas.{every-append, every-reverse}
use Rattle.field_form.specs.Decisions.{IsDecision}
use Rattle.broker_ledger.specs.Ending.TheVariants as ending
use Rattle.broker_ledger.specs.ObjectBytes.{IsObject}
use Rattle.broker_ledger.specs.ValueBytes.{IsValue}
use Rattle.broker_ledger.specs.Effect.TheVariants as effect
use Rattle.broker_ledger.specs.Outcome.TheVariants as outcome
use Rattle.broker_ledger.specs.Effects.{IsIndex}
use Rattle.broker_ledger.specs.Outcomes.{IsOutcome}
use Rattle.message_form.specs.declared.messages.Message.TheVariants as message
use Rattle.message_form.specs.Messages.{IsMessage}
use Rattle.broker_ledger.specs.ScriptRanges.{StopInRange}
use Rattle.broker_ledger.specs.Requests.{AsksInRange, AnswerHasBytes}
use Rattle.broker_ledger.proofs.RequestLemmas.{denote-HasBytes, stop-InRange}
use Rattle.broker_ledger.proofs.TestLemmas.{by_test}
use Rattle.broker_ledger.specs.declared.givens.Given.TheVariants as given
use Rattle.broker_core.specs.declared.phases.Phase.TheVariants as phase
use Rattle.broker_ledger.proofs.ScriptRangeLemmas.{printable-InRange}
use Rattle.broker_ledger.proofs.TextByteLemmas.{script-IsBytes}

-- ---- lists

every-take : {A : Type 0} (P : A → Type 0) (n : ℕ) (xs : List A) → Every P xs → Every P (take n xs)
every-take P zero xs h = tt
every-take P (suc n) [] h = tt
every-take P (suc n) (x ∷ xs) h = (h.0, every-take P n xs h.1)

-- an element in its place, which is below the length
abbrev Placed : {A : Type 0} → (A → Type 0) → List A → ℕ → Option A → Type 0
Placed P xs i None = Unit {0}
Placed P xs i (Some x) = P x × (i < length xs)

placed-more : {A : Type 0} (P : A → Type 0) (x : A) (xs : List A) (i : ℕ) (o : Option A) → Placed P xs i o → Placed P (x ∷ xs) (suc i) o
placed-more P x xs i None h = tt
placed-more P x xs i (Some y) h = (h.0, omega (arith, h.1))

placed : {A : Type 0} (P : A → Type 0) (xs : List A) (i : ℕ) → Every P xs → Placed P xs i (slice_get xs i)
placed P [] zero h = tt
placed P [] (suc i) h = tt
placed P (x ∷ xs) zero h = (h.0, omega arith)
placed P (x ∷ xs) (suc i) h = placed-more P x xs i (slice_get xs i) (placed P xs i h.1)

-- there is an element, and P holds of it
abbrev Holds : {A : Type 0} → (A → Type 0) → Option A → Type 0
Holds P None = ⊥
Holds P (Some x) = P x

there : {A : Type 0} (P : A → Type 0) (xs : List A) (i : ℕ) → i < length xs → Every P xs → Holds P (slice_get xs i)
there P [] zero k h = absurd (omega arith)
there P [] (suc i) k h = absurd (omega arith)
there P (x ∷ xs) zero k h = h.0
there P (x ∷ xs) (suc i) k h = there P xs i (omega arith) h.1

-- ---- the last try

stamp-answered : (o : Option Last) → HasStamp o → HasStamp (option_map (λ (l : Last). record l { answered = l.answered + 1 }) o)
stamp-answered None h = tt
stamp-answered (Some l) h = h

stamp-ended : (x : Outcome) (o : Option Last) → HasStamp o → HasStamp (option_map (λ (l : Last). record l { end = Some x }) o)
stamp-ended x None h = tt
stamp-ended x (Some l) h = h

answers-ended : (x : Outcome) (o : Option Last) (answers : List Given) → Every GivenInRange (take (answered_in o) answers) → Every GivenInRange (take (answered_in (option_map (λ (l : Last). record l { end = Some x }) o)) answers)
answers-ended x None answers h = h
answers-ended x (Some l) answers h = h

-- ---- effects that change what is kept

-- a try is one of an act that was begun
abbrev Starts : Effect → Notes → Type 0
Starts (effect.Try i s) n = n.started ≢ 0
Starts _ n = Unit {0}

shown-range : (o : Outcome) (n : ℕ) → IsOutcome o → n ≤ 1099511627775 → shown_by o n ≤ 1099511627775
shown-range (outcome.LaterRead o e) n h k = max-le k (let c = h.1.stamp_in_range.clock_high in omega arith)
shown-range (outcome.LaterVersion o x) n h k = max-le k (let c = h.1.stamp_in_range.clock_high in omega arith)
shown-range (outcome.Expired d m) n h k = k
shown-range (outcome.Spent c) n h k = k
shown-range o n h k = k

end-InRange : (o : Outcome) (n : Notes) (answers : List Given) → IsOutcome o → AreInRange n answers → AreInRange (end_noted o n) answers
end-InRange (outcome.Spent c) n answers e h = record { begun = h.begun; shown = h.shown; stamp = h.stamp; answers_fit = h.answers_fit }
end-InRange outcome.Committed n answers e h =
    record { begun = h.begun; shown = h.shown; stamp = stamp-ended outcome.Committed n.last h.stamp; answers_fit = answers-ended outcome.Committed n.last answers h.answers_fit }
end-InRange (outcome.Withdrawn l) n answers e h =
    record { begun = h.begun; shown = h.shown; stamp = stamp-ended (outcome.Withdrawn l) n.last h.stamp; answers_fit = answers-ended (outcome.Withdrawn l) n.last answers h.answers_fit }
end-InRange (outcome.Failed l k) n answers e h =
    record { begun = h.begun; shown = h.shown; stamp = stamp-ended (outcome.Failed l k) n.last h.stamp; answers_fit = answers-ended (outcome.Failed l k) n.last answers h.answers_fit }
end-InRange (outcome.LaterRead o x) n answers e h =
    record { begun = h.begun; shown = shown-range (outcome.LaterRead o x) n.shown e h.shown; stamp = stamp-ended (outcome.LaterRead o x) n.last h.stamp; answers_fit = answers-ended (outcome.LaterRead o x) n.last answers h.answers_fit }
end-InRange (outcome.LaterVersion o x) n answers e h =
    record { begun = h.begun; shown = shown-range (outcome.LaterVersion o x) n.shown e h.shown; stamp = stamp-ended (outcome.LaterVersion o x) n.last h.stamp; answers_fit = answers-ended (outcome.LaterVersion o x) n.last answers h.answers_fit }
end-InRange (outcome.Expired d m) n answers e h =
    record { begun = h.begun; shown = h.shown; stamp = stamp-ended (outcome.Expired d m) n.last h.stamp; answers_fit = answers-ended (outcome.Expired d m) n.last answers h.answers_fit }

run-InRange : (m : ℕ) (n : Notes) (answers : List Given) → AreInRange (run_begun m n) answers
run-InRange m n answers = record { begun = λ k. absurd (k refl); shown = omega arith; stamp = tt; answers_fit = tt }

changed-InRange : (acts : List ActSpec) (f : Effect) (n : Notes) (answers : List Given) → IsEffect f → Starts f n → AreInRange n answers → AreInRange (changed acts f n) answers
changed-InRange acts (effect.Run m) n answers e s h = run-InRange m n answers
changed-InRange acts (effect.Act i x t k c y) n answers e s h = record { begun = λ k. absurd (k refl); shown = h.shown; stamp = h.stamp; answers_fit = h.answers_fit }
changed-InRange acts (effect.Try i x) n answers e s h = record { begun = λ k. s; shown = h.shown; stamp = e.0.1; answers_fit = tt }
changed-InRange acts (effect.Got k v) n answers e s h = h
changed-InRange acts (effect.Acked k) n answers e s h = h
changed-InRange acts (effect.End i o) n answers e s h = end-InRange o n answers e.0.1 h
changed-InRange acts f n answers e s h = h

answered-InRange : (n : Notes) (answers : List Given) (g : Given) → GivenInRange g → AreInRange n answers
    → AreInRange (record n { last = option_map (λ (l : Last). record l { answered = l.answered + 1 }) n.last }) (kept n answers ++ g ∷ [])
answered-InRange n answers g e h = record {
  begun = h.begun;
  shown = h.shown;
  stamp = stamp-answered n.last h.stamp;
  answers_fit = every-take GivenInRange _ (kept n answers ++ g ∷ []) (every-append GivenInRange (kept n answers) (g ∷ []) h.answers_fit (e, tt));
}

added-InRange : (l : LedgerParts) (f : Effect) → IsEffect f → Starts f l.notes → AreInRange l.notes l.answers → AreInRange (added l f).notes (added l f).answers
added-InRange l (effect.Run m) e s h = changed-InRange l.acts (effect.Run m) l.notes l.answers e s h
added-InRange l (effect.Act i x t k c y) e s h = changed-InRange l.acts (effect.Act i x t k c y) l.notes l.answers e s h
added-InRange l (effect.Try i x) e s h = changed-InRange l.acts (effect.Try i x) l.notes l.answers e s h
added-InRange l (effect.Got k v) e s h = answered-InRange l.notes l.answers (given.Got v) e.0.1 h
added-InRange l (effect.Acked k) e s h = answered-InRange l.notes l.answers given.Stored tt h
added-InRange l (effect.End i o) e s h = changed-InRange l.acts (effect.End i o) l.notes l.answers e s h
added-InRange l f e s h = h

-- ---- a log that is taken up

passed-InRange : (f : Effect) (n : Notes) (answers : List Given) → AreInRange n answers → AreInRange (passed f n) answers
passed-InRange (effect.Run m) n answers h = by_test (nat_lt n.run m) (λ c. AreInRange (cond c (run_begun m n) n) answers) (λ e. run-InRange m n answers) (λ e. h)
passed-InRange (effect.Act i x t k c y) n answers h = h
passed-InRange (effect.Try i x) n answers h = record { begun = h.begun; shown = h.shown; stamp = h.stamp; answers_fit = h.answers_fit }
passed-InRange f n answers h = h

starts-by : (me : ℕ) (acts : List ActSpec) (n : Notes) (i : ℕ) (s : StampParts) (c : Bool) → (n.started == 0) ≡ c → fits_try_at me (cond c None (slice_get acts (n.started - 1))) i s n ≡ true → n.started ≢ 0
starts-by me acts n i s true e h = absurd (false≢true h)
starts-by me acts n i s false e h = λ z. absurd (false≢true (sym e ∙ ap (λ k. k == 0) z))

starts-of : (l : LedgerParts) (f : Effect) → fits_now l f ≡ true → Starts f l.notes
starts-of l (effect.Run m) h = tt
starts-of l (effect.Act i x t k c y) h = tt
starts-of l (effect.Try i x) h = starts-by l.number l.acts l.notes i x (l.notes.started == 0) refl h
starts-of l f h = tt

abbrev LedgerInRange : LedgerParts → Type 0
LedgerInRange l = AreInRange l.notes l.answers

logged-InRange : (l : LedgerParts) (f : Effect) → IsEffect f → LedgerInRange l → LedgerInRange (logged l f)
logged-InRange l f e h =
    by_test (l.notes.run == l.run) (λ c. LedgerInRange (cond c (cond (fits_now l f) (added l f) l) (record l { notes = passed f l.notes })))
    (λ here. by_test (fits_now l f) (λ c. LedgerInRange (cond c (added l f) l)) (λ fits. added-InRange l f e (starts-of l f fits) h) (λ fits. h))
    (λ here. passed-InRange f l.notes l.answers h)

led-InRange : (l : LedgerParts) (log : List Effect) → AreEffects log → LedgerInRange l → LedgerInRange (led l log)
led-InRange l [] es h = h
led-InRange l (f ∷ log) es h = logged-InRange (led l log) f es.0 (led-InRange l log es.1 h)

-- the number, the run and the acts stay
logged-same : (l : LedgerParts) (f : Effect) → ((logged l f).number ≡ l.number) × ((logged l f).run ≡ l.run) × ((logged l f).acts ≡ l.acts)
logged-same l f =
    by_test (l.notes.run == l.run) (λ c. let x : LedgerParts = cond c (cond (fits_now l f) (added l f) l) (record l { notes = passed f l.notes }) in (x.number ≡ l.number) × (x.run ≡ l.run) × (x.acts ≡ l.acts))
    (λ here. by_test (fits_now l f) (λ c. let x : LedgerParts = cond c (added l f) l in (x.number ≡ l.number) × (x.run ≡ l.run) × (x.acts ≡ l.acts)) (λ fits. (refl, refl, refl)) (λ fits. (refl, refl, refl)))
    (λ here. (refl, refl, refl))

led-same : (l : LedgerParts) (log : List Effect) → ((led l log).number ≡ l.number) × ((led l log).run ≡ l.run) × ((led l log).acts ≡ l.acts)
led-same l [] = (refl, refl, refl)
led-same l (f ∷ log) = let one = logged-same (led l log) f in let more = led-same l log in (one.0 ∙ more.0, one.1 ∙ more.1, one.2 ∙ more.2)

opened-InRange : (number run : ℕ) (acts : List ActSpec) (log : List Effect) (l : LedgerParts) → AreEffects log → l ≡ led (fresh_ledger number run acts) (reverse log) → AreInRange l.notes l.answers
opened-InRange number run acts log l es e =
    subst LedgerInRange (sym e) (led-InRange (fresh_ledger number run acts) (reverse log) (every-reverse IsEffect log es) (record { begun = λ k. absurd (k refl); shown = omega arith; stamp = tt; answers_fit = tt }))

-- ---- the act and the stage

-- notes on a log of a run with these acts
pub record Fit (acts : List ActSpec) (answers : List Given) (n : Notes) : Type 0 where
  pub started : n.started ≤ length acts
  pub clock : n.clock ≤ 1099511627775
  pub range : AreInRange n answers

end-same : (o : Outcome) (n : Notes) → ((end_noted o n).started ≡ n.started) × ((end_noted o n).clock ≡ n.clock)
end-same outcome.Committed n = (refl, refl)
end-same o n = (refl, refl)

end-Fit : (acts : List ActSpec) (answers : List Given) (o : Outcome) (n : Notes) → IsOutcome o → Fit acts answers n → Fit acts answers (end_noted o n)
end-Fit acts answers o n e h =
    let same = end-same o n in
    record { started = subst (λ k. k ≤ length acts) (sym same.0) h.started; clock = subst (λ k. k ≤ 1099511627775) (sym same.1) h.clock; range = end-InRange o n answers e h.range }

-- an answer or an end that a message adds
heard-Fit : (l : LedgerParts) (f : Effect) → IsEffect f → IsHeard f → Fit l.acts l.answers l.notes → Fit l.acts (added l f).answers (added l f).notes
heard-Fit l (effect.Got k v) e is h = record { started = h.started; clock = h.clock; range = added-InRange l (effect.Got k v) e tt h.range }
heard-Fit l (effect.Acked k) e is h = record { started = h.started; clock = h.clock; range = added-InRange l (effect.Acked k) e tt h.range }
heard-Fit l (effect.End i o) e is h = end-Fit l.acts l.answers o l.notes e.0.1 h
heard-Fit l f e is h = absurd is

module _ (acts : List ActSpec) (each : Every IsBrokerAct acts) where
  act-there : (n : Notes) → n.started ≢ 0 → n.started ≤ length acts → Holds IsBrokerAct (act_at acts n)
  act-there n ne few =
      by_test (n.started == 0) (λ c. Holds IsBrokerAct (cond c None (slice_get acts (n.started - 1)))) (λ e. absurd (ne (eqb-true n.started 0 e)))
      (λ e. there IsBrokerAct acts (n.started - 1) (omega arith) each)

  index-there : (o : Option ActSpec) → Holds IsBrokerAct o → IsIndex (index_of o)
  index-there None h = absurd h
  index-there (Some a) h = (let k = h.index_high in omega arith, h.index_low, h.index_high)

  act-fits : (n : Notes) → AsksInRange (tree_of (act_at acts n))
  act-fits n = by_test (n.started == 0) (λ c. AsksInRange (tree_of (cond c None (slice_get acts (n.started - 1))))) (λ e. tt) (λ e. of (slice_get acts (n.started - 1)) (placed IsBrokerAct acts (n.started - 1) each))
    where
      of : (o : Option ActSpec) → Placed IsBrokerAct acts (n.started - 1) o → AsksInRange (tree_of o)
      of None h = tt
      of (Some a) h = denote-HasBytes (block a.script.lines) (printable-InRange 16 (block a.script.lines) h.0.script)

  answers-fit : (gs : List Given) → Every GivenInRange gs → Every AnswerHasBytes (answers_given gs)
  answers-fit [] h = tt
  answers-fit (given.Got v ∷ gs) h = (h.0, answers-fit gs h.1)
  answers-fit (given.Stored ∷ gs) h = (tt, answers-fit gs h.1)

  stop-fits : (n : Notes) (gs : List Given) → Every GivenInRange gs → StopInRange (stop_at acts n gs)
  stop-fits n gs h = stop-InRange (tree_of (act_at acts n)) (answers_given gs) (act-fits n) (answers-fit gs h)

  -- the stage of a try of an act that was begun, with what it asks for in range
  abbrev PhaseFits : Notes → Phase → Type 0
  PhaseFits n phase.Idle = Unit {0}
  PhaseFits n phase.Refused = n.started ≢ 0
  PhaseFits n phase.Opening = n.started ≢ 0
  PhaseFits n (phase.Reading o) = (n.started ≢ 0) × IsObject o
  PhaseFits n (phase.Writing o v) = (n.started ≢ 0) × IsObject o × IsValue v
  PhaseFits n phase.Finishing = n.started ≢ 0
  PhaseFits n (phase.Stopping o) = (n.started ≢ 0) × IsOutcome o
  PhaseFits n phase.Closing = Unit {0}

  of-stop : (n : Notes) (s : Stop) → n.started ≢ 0 → StopInRange s → PhaseFits n (phase_of s)
  of-stop n (Asks (ToRead o)) b h = (b, h)
  of-stop n (Asks (ToWrite o v)) b h = (b, h.0, h.1)
  of-stop n (Over ending.Finished) b h = b
  of-stop n (Over (ending.Withdrawn l)) b h = (b, (let k = h.1 in omega arith, h.0, h.1))
  of-stop n (Over (ending.Failed l k)) b h = (b, ((let m = h.1 in omega arith, h.0, h.1), tt))

  by-stop : (n : Notes) (h : Heard) (l : Last) (s : Stop) → n.started ≢ 0 → StopInRange s → PhaseFits n (phase_by_stop h l s)
  by-stop n h l s b k =
      by_test (is_asking s && is_time h.ended (time_at l)) (λ c. PhaseFits n (cond c phase.Refused (cond ((l.answered == 0) && (if is_stamp h.begun l.stamp then false else true)) phase.Opening (phase_of s))))
      (λ e. b)
      (λ e. by_test ((l.answered == 0) && (if is_stamp h.begun l.stamp then false else true)) (λ c. PhaseFits n (cond c phase.Opening (phase_of s))) (λ e. b) (λ e. of-stop n s b k))

  by-last : (n : Notes) (h : Heard) (o : Option Last) → PhaseFits n (phase_by_last h o)
  by-last n h None = tt
  by-last n h (Some l) = by_test (is_none l.end || closed_at h l) (λ c. PhaseFits n (cond c phase.Idle phase.Closing)) (λ e. tt) (λ e. tt)

  by-open : (n : Notes) (gs : List Given) (h : Heard) (o : Option Last) → n.started ≢ 0 → Every GivenInRange gs → PhaseFits n (phase_by_open acts n gs h o)
  by-open n gs h None b k = by-last n h n.last
  by-open n gs h (Some l) b k = by-stop n h l (stop_at acts n gs) b (stop-fits n gs k)

  phase-fits : (run : ℕ) (n : Notes) (answers : List Given) (h : Heard) → AreInRange n answers → PhaseFits n (phase_at acts run n (kept n answers) h)
  phase-fits run n answers h r =
      by_test (n.run == run) (λ c. PhaseFits n (cond c (phase_by_open acts n (kept n answers) h (open_last n)) phase.Idle))
      (λ e. by_test (n.tries == 0) (λ c. PhaseFits n (phase_by_open acts n (kept n answers) h (cond c None (unended n.last))))
      (λ none. by-last n h n.last)
      (λ some. by-open n (kept n answers) h (unended n.last) (r.begun (λ z. absurd (false≢true (sym some ∙ ap (λ k. k == 0) z)))) r.answers_fit))
      (λ e. tt)

  -- ---- what is owed

  module _ (me run : ℕ) (me_low : 1 ≤ me) (me_high : me ≤ 16) (run_low : 1 ≤ run) (run_high : run < 2 ^ 32) (answers : List Given) where
    -- the effect has bytes, and the notes fit after it
    abbrev OwedFits : Notes → Option Effect → Type 0
    OwedFits n None = Unit {0}
    OwedFits n (Some f) = IsEffect f × Fit acts answers (changed acts f n)

    start-fits : (n : Notes) (o : Option ActSpec) → Fit acts answers n → Placed IsBrokerAct acts n.started o → OwedFits n (start_at o)
    start-fits n None h p = tt
    start-fits n (Some a) h (is, below) =
        let text = script-IsBytes 16 (block a.script.lines) is.script in
        let e : IsEffect (act_effect (task_of a)) = (
          record {
            index_in_range = (let k = is.index_high in omega arith, is.index_low, is.index_high);
            home_in_range = (let k = is.home_high in omega arith, is.home_low, is.home_high);
            timeout_in_range = (let k = is.timeout_high in omega arith, is.timeout_low, is.timeout_high);
            tries_in_range = (let k = is.tries_high in omega arith, is.tries_low, is.tries_high);
            clock_in_range = (let k = is.clock_high in omega arith, is.clock_low, is.clock_high);
            size = is.script.bytes;
            script_is_bytes = text;
          },
          refl,
        ) in
        (e, record { started = omega (arith, below); clock = h.clock; range = changed-InRange acts (act_effect (task_of a)) n answers e tt h.range })

    start-there : (n : Notes) → Fit acts answers n → OwedFits n (start_at (slice_get acts n.started))
    start-there n h = start-fits n (slice_get acts n.started) h (placed IsBrokerAct acts n.started each)

    shown-fits : (n : Notes) (o : Option ActSpec) → Holds IsBrokerAct o → n.shown ≤ 1099511627775 → shown_at o n ≤ 1099511627775
    shown-fits n None a h = absurd a
    shown-fits n (Some a) is h = max-le h (let k = is.clock_high in omega arith)

    home-there : (o : Option ActSpec) → Holds IsBrokerAct o → (1 ≤ home_of o) × (home_of o ≤ 16)
    home-there None h = absurd h
    home-there (Some a) h = (h.home_low, h.home_high)

    by-clock : (n : Notes) (o : Option ActSpec) → Fit acts answers n → n.started ≢ 0 → Holds IsBrokerAct o → OwedFits n (Some (by_clock_at me o n (next_clock n.clock (shown_at o n))))
    by-clock n o h b a =
        let last : ℕ = max n.clock (shown_at o n) in
        let high : last ≤ 1099511627775 = max-le h.clock (shown-fits n o a h.range.shown) in
        let i : IsIndex (index_of o) = index-there o a in
        let home = home-there o a in
        by_test (nat_lt last 1099511627775) (λ c. OwedFits n (Some (by_clock_at me o n (cond c (Some (last + 1)) None))))
        (λ e.
        let below : last < 1099511627775 = grind (arith, nat_tests) in
        let s : StampParts = record { clock = last + 1; broker = me; home = home_of o } in
        let is : IsStamp s = record { clock_low = omega arith; clock_high = omega (arith, below); broker_low = me_low; broker_high = me_high; home_low = home.0; home_high = home.1 } in
        let f : IsEffect (effect.Try (index_of o) s) = ((i, is), refl) in
        (f, record { started = h.started; clock = max-le h.clock (omega (arith, below)); range = changed-InRange acts (effect.Try (index_of o) s) n answers f b h.range }))
        (λ e.
        let above : 1099511627775 ≤ last = grind (arith, nat_tests) in
        let f : IsEffect (effect.End (index_of o) (outcome.Spent last)) = ((i, (omega (arith, high), omega (arith, above), high)), refl) in
        (f, record { started = h.started; clock = h.clock; range = changed-InRange acts (effect.End (index_of o) (outcome.Spent last)) n answers f tt h.range }))

    try-fits : (n : Notes) → Fit acts answers n → n.started ≢ 0 → OwedFits n (Some (try_or_spent_at me (act_at acts n) n))
    try-fits n h b = by-clock n (act_at acts n) h b (act-there n b h.started)

    tries-fit : (hd : Heard) (n : Notes) → Fit acts answers n → n.started ≢ 0 → OwedFits n (after_tries_at me acts hd n)
    tries-fit hd n h b =
        let more : Option Effect = Some (try_or_spent_at me (act_at acts n) n) in
        let next : Option Effect = start_at (slice_get acts n.started) in
        let later : Option Effect = cond (closed_in hd n.last) (cond (another_at (most_of (act_at acts n)) n) more next) None in
        by_test (n.tries == 0) (λ c. OwedFits n (cond c more later)) (λ e. try-fits n h b)
        (λ e. by_test (closed_in hd n.last) (λ c. OwedFits n (cond c (cond (another_at (most_of (act_at acts n)) n) more next) None))
        (λ e. by_test (another_at (most_of (act_at acts n)) n) (λ c. OwedFits n (cond c more next)) (λ e. try-fits n h b) (λ e. start-there n h))
        (λ e. tt))

    due-fits : (hd : Heard) (n : Notes) → Fit acts answers n → OwedFits n (due_at me acts hd n)
    due-fits hd n h =
        by_test (n.started == 0) (λ c. OwedFits n (cond c (start_at (slice_get acts 0)) (cond n.spent (start_at (slice_get acts n.started)) (after_tries_at me acts hd n))))
        (λ e. subst (λ k. OwedFits n (start_at (slice_get acts k))) (eqb-true n.started 0 e) (start-there n h))
        (λ e. by_test n.spent (λ c. OwedFits n (cond c (start_at (slice_get acts n.started)) (after_tries_at me acts hd n)))
        (λ s. start-there n h)
        (λ s. tries-fit hd n h (λ z. absurd (false≢true (sym e ∙ ap (λ k. k == 0) z)))))

    by-phase : (hd : Heard) (n : Notes) (p : Phase) → Fit acts answers n → PhaseFits n p → OwedFits n (by_phase me acts hd n p)
    by-phase hd n (phase.Stopping o) h (b, k) = (((index-there (act_at acts n) (act-there n b h.started), k), refl), end-Fit acts answers o n k h)
    by-phase hd n phase.Idle h k = due-fits hd n h
    by-phase hd n x h k = due-fits hd n h

    owed-fits : (hd : Heard) (n : Notes) → Fit acts answers n → OwedFits n (owed_now me run acts answers hd n)
    owed-fits hd n h =
        by_test (nat_lt n.run run) (λ c. OwedFits n (cond c (Some (effect.Run run)) (by_phase me acts hd n (phase_at acts run n (kept n answers) hd))))
        (λ e. (((run_high, run_low, omega (arith, run_high)), refl), record { started = omega arith; clock = h.clock; range = run-InRange run n answers }))
        (λ e. by-phase hd n (phase_at acts run n (kept n answers) hd) h (phase-fits run n answers hd h.range))

    settle-on-fits : (hd : Heard) (next : List Effect → Notes → Settled) → ((fresh : List Effect) (n : Notes) → AreEffects fresh → Fit acts answers n → AreEffects (next fresh n).0 × Fit acts answers (next fresh n).1)
        → (o : Option Effect) (fresh : List Effect) (n : Notes) → AreEffects fresh → Fit acts answers n → OwedFits n o → AreEffects (settle_on me run acts answers hd next o fresh n).0 × Fit acts answers (settle_on me run acts answers hd next o fresh n).1
    settle-on-fits hd next more None fresh n es h f = (es, h)
    settle-on-fits hd next more (Some e) fresh n es h f = more (e ∷ fresh) (changed acts e n) (f.0, es) f.1

    settle-fits : (hd : Heard) (k : ℕ) (fresh : List Effect) (n : Notes) → AreEffects fresh → Fit acts answers n →
        AreEffects (settled me run acts answers hd k fresh n).0 × Fit acts answers (settled me run acts answers hd k fresh n).1
    unfolding settled
    settle-fits hd zero fresh n es h = (es, h)
    settle-fits hd (suc k) fresh n es h =
        settle-on-fits hd (settled me run acts answers hd k) (λ fresh' n' es' h'. settle-fits hd k fresh' n' es' h') (owed_now me run acts answers hd n) fresh n es h (owed-fits hd n h)

  -- ---- messages

  timeout-there : (o : Option ActSpec) → Holds IsBrokerAct o → (timeout_of o < 2 ^ 32) × (1 ≤ timeout_of o) × (timeout_of o ≤ 1000000)
  timeout-there None h = absurd h
  timeout-there (Some a) h = (let k = h.timeout_high in omega arith, h.timeout_low, h.timeout_high)

  time-fits : (l : Last) → IsStamp l.stamp → l.answered ≤ 10000 → IsTime (time_at l)
  time-fits l s few = record { stamp_in_range = s; step_low = omega arith; step_high = omega (arith, few) }

  abbrev OutFits : Option Out → Type 0
  OutFits None = Unit {0}
  OutFits (Some o) = IsMessage o.message

  standing-for : (n : Notes) (l : Last) (p : Phase) → n.started ≤ length acts → IsStamp l.stamp → l.answered ≤ 10000 → PhaseFits n p → OutFits (standing_for (timeout_of (act_at acts n)) l p)
  standing-for n l phase.Idle started s few k = tt
  standing-for n l phase.Opening started s few k = (s, timeout-there (act_at acts n) (act-there n k started))
  standing-for n l (phase.Reading o) started s few k = (time-fits l s few, k.1)
  standing-for n l (phase.Writing o v) started s few k = (time-fits l s few, k.1, k.2)
  standing-for n l (phase.Stopping o) started s few k = tt
  standing-for n l x started s few k = s

  standing-fits : (n : Notes) (p : Phase) → n.started ≤ length acts → HasStamp n.last → answered_in n.last ≤ 10000 → PhaseFits n p → OutFits (standing_at acts n p)
  standing-fits n p started s few k = go n.last s few
    where
      go : (o : Option Last) → HasStamp o → answered_in o ≤ 10000 → OutFits (standing_by (timeout_of (act_at acts n)) p o)
      go None s few = tt
      go (Some l) s few = standing-for n l p started s few k

  listed-fits : (o : Option Out) → OutFits o → AreOuts (listed o)
  listed-fits None h = tt
  listed-fits (Some o) h = (h, tt)

  -- ---- what is heard

  abbrev ReplyFits : Reply → Type 0
  ReplyFits Ignored = Unit {0}
  ReplyFits (Hears h) = Unit {0}
  ReplyFits (Adds f) = IsEffect f × IsHeard f

  when-fits : (c : Bool) (r : Reply) → ReplyFits r → ReplyFits (when c r)
  when-fits true r h = h
  when-fits false r h = tt

  commit-fits : (i : ℕ) (d : Decision) → IsIndex i → IsDecision d → ReplyFits (commit_answered i d)
  commit-fits i decision.Committed h k = (((h, tt), refl), tt)
  commit-fits i decision.Withdrawn h k = tt
  commit-fits i (decision.Expired d m) h k = (((h, k), refl), tt)

  early-fits : (c : Bool) (i : ℕ) (d : Decision) → IsIndex i → IsDecision d → ReplyFits (early_answered c i d)
  early-fits c i decision.Committed h k = when-fits c (ends_at i outcome.Committed) (((h, tt), refl), tt)
  early-fits c i decision.Withdrawn h k = tt
  early-fits c i (decision.Expired d m) h k = (((h, k), refl), tt)

  opening-fits : (i : ℕ) (c : Bool) (l : Last) (h : Heard) (m : Message) → IsIndex i → IsMessage m → ReplyFits (opening_row i c l h m)
  opening-fits i c l h (message.Begun x) j k = when-fits (same_stamp l.stamp x) _ tt
  opening-fits i c l h (message.Decided x d) j k = when-fits (same_stamp l.stamp x) (early_answered c i d) (early-fits c i d j k.1)
  opening-fits i c l h _ j k = tt

  ended-fits : (l : Last) (h : Heard) (x : TimeParts) → ReplyFits (ended_row l h x)
  ended-fits l h x = when-fits (same_time (time_at l) x) _ tt

  positive : (x : TimeParts) → IsTime x → (x.step < 2 ^ 32) × (1 ≤ x.step) × (x.step ≤ 4294967295)
  positive x h = (h.step_high, h.step_low, let k = h.step_high in omega arith)

  reading-fits : (i : ℕ) (o : _) (l : Last) (h : Heard) (m : Message) → IsIndex i → IsObject o → IsMessage m → ReplyFits (reading_row i o l h m)
  reading-fits i o l h (message.Value x v) j ob k = when-fits (same_time (time_at l) x) (Adds (effect.Got x.step v)) (((positive x k.0, k.1), refl), tt)
  reading-fits i o l h (message.LaterRead x e) j ob k = when-fits (same_time (time_at l) x) (ends_at i (outcome.LaterRead o e)) (((j, (ob, k.1)), refl), tt)
  reading-fits i o l h (message.Ended x) j ob k = ended-fits l h x
  reading-fits i o l h _ j ob k = tt

  writing-fits : (i : ℕ) (o : _) (l : Last) (h : Heard) (m : Message) → IsIndex i → IsObject o → IsMessage m → ReplyFits (writing_row i o l h m)
  writing-fits i o l h (message.Stored x) j ob k = when-fits (same_time (time_at l) x) (Adds (effect.Acked x.step)) ((positive x k, refl), tt)
  writing-fits i o l h (message.LaterRead x e) j ob k = when-fits (same_time (time_at l) x) (ends_at i (outcome.LaterRead o e)) (((j, (ob, k.1)), refl), tt)
  writing-fits i o l h (message.LaterVersion x e) j ob k = when-fits (same_time (time_at l) x) (ends_at i (outcome.LaterVersion o e)) (((j, (ob, k.1)), refl), tt)
  writing-fits i o l h (message.Ended x) j ob k = ended-fits l h x
  writing-fits i o l h _ j ob k = tt

  abbrev DecidedFits : Option Decision → Type 0
  DecidedFits None = Unit {0}
  DecidedFits (Some d) = IsDecision d

  decided-fits : (s : StampParts) (m : Message) → IsMessage m → DecidedFits (decided_of s m)
  decided-fits s (message.Decided x d) k = by_test (same_stamp s x) (λ c. DecidedFits (cond c (Some d) None)) (λ e. k.1) (λ e. tt)
  decided-fits s _ k = tt

  decision-fits : (n : Notes) (l : Last) (p : Phase) (h : Heard) (o : Option Decision) → n.started ≤ length acts → PhaseFits n p → DecidedFits o → ReplyFits (decision_row (index_of (act_at acts n)) l p h o)
  decision-fits n l p h None started k d = tt
  decision-fits n l phase.Finishing h (Some x) started k d = commit-fits (index_of (act_at acts n)) x (index-there (act_at acts n) (act-there n k started)) d
  decision-fits n l phase.Refused h (Some x) started k d = early-fits false (index_of (act_at acts n)) x (index-there (act_at acts n) (act-there n k started)) d
  decision-fits n l phase.Closing h (Some x) started k d = tt
  decision-fits n l _ h (Some x) started k d = tt

  reply-for : (n : Notes) (s : Stop) (l : Last) (p : Phase) (h : Heard) (m : Message) → n.started ≤ length acts → PhaseFits n p → IsMessage m → ReplyFits (reply_for (index_of (act_at acts n)) s l p h m)
  reply-for n s l phase.Opening h m started k is = opening-fits (index_of (act_at acts n)) _ l h m (index-there (act_at acts n) (act-there n k started)) is
  reply-for n s l (phase.Reading o) h m started k is = reading-fits (index_of (act_at acts n)) o l h m (index-there (act_at acts n) (act-there n k.0 started)) k.1 is
  reply-for n s l (phase.Writing o v) h m started k is = writing-fits (index_of (act_at acts n)) o l h m (index-there (act_at acts n) (act-there n k.0 started)) k.1 is
  reply-for n s l x h m started k is = decision-fits n l x h (decided_of l.stamp m) started k (decided-fits l.stamp m is)

  reply-fits : (n : Notes) (gs : List Given) (p : Phase) (h : Heard) (m : Message) → n.started ≤ length acts → PhaseFits n p → IsMessage m → ReplyFits (reply_at acts n gs p h m)
  reply-fits n gs p h m started k is = go n.last
    where
      go : (o : Option Last) → ReplyFits (reply_by (index_of (act_at acts n)) (stop_at acts n gs) o p h m)
      go None = tt
      go (Some l) = reply-for n (stop_at acts n gs) l p h m started k is

-- ---- a turn

abbrev fit-of : (l : LedgerParts) → Ranged l → Fit l.acts l.answers l.notes
fit-of l r = record { started = r.started; clock = r.clock; range = r.in_range }

-- the ledger after the first effect and those that are owed then
gained : (l : LedgerParts) (h : Heard) (first : Option Effect) → Ranged l → FirstInRange first → AreEffects (effects_from l first h) × Fit l.acts (ledger_from l first h).answers (ledger_from l first h).notes
gained l h None r f = settle-fits l.acts r.are_acts.each l.number l.run r.number_low r.number_high r.run_low r.run_high l.answers h (most_steps l.acts) [] l.notes tt (fit-of l r)
gained l h (Some e) r f =
    settle-fits l.acts r.are_acts.each l.number l.run r.number_low r.number_high r.run_low r.run_high (added l e).answers h (most_steps l.acts) (e ∷ []) (added l e).notes (f.0, tt) (heard-Fit l e f.0 f.1 (fit-of l r))

ranged-from : (l : LedgerParts) (h : Heard) (first : Option Effect) → Ranged l → Fit l.acts (ledger_from l first h).answers (ledger_from l first h).notes → Ranged (ledger_from l first h)
ranged-from l h None r f =
    record { are_acts = r.are_acts; number_low = r.number_low; number_high = r.number_high; run_low = r.run_low; run_high = r.run_high; started = f.started; clock = f.clock; in_range = f.range }
ranged-from l h (Some e) r f =
    record { are_acts = r.are_acts; number_low = r.number_low; number_high = r.number_high; run_low = r.run_low; run_high = r.run_high; started = f.started; clock = f.clock; in_range = f.range }

pub ranged-after : (l0 l : LedgerParts) (h : Heard) (first : Option Effect) → Ranged l0 → FirstInRange first → l ≡ ledger_from l0 first h → Ranged l
ranged-after l0 l h first r f e = subst Ranged (sym e) (ranged-from l0 h first r (gained l0 h first r f).1)

pub ranged-opened : (number run : ℕ) (acts : List ActSpec) (log : List Effect) (l0 l l' : LedgerParts) → AreBrokerActs acts → 1 ≤ number → number ≤ 16 → 1 ≤ run → run < 2 ^ 32 → AreEffects log →
    l0 ≡ fresh_ledger number run acts → l ≡ led l0 (reverse log) → l' ≡ l → AreNotes l.acts l.notes l.answers → Ranged l'
ranged-opened number run acts log l0 l l' are low high run_low run_high es fresh e same notes =
    let is : l ≡ led (fresh_ledger number run acts) (reverse log) = e ∙ ap (λ x. led x (reverse log)) fresh in
    let names = led-same (fresh_ledger number run acts) (reverse log) in
    subst Ranged (sym same) (record {
      are_acts = subst AreBrokerActs (sym (ap (λ (x : LedgerParts). x.acts) is ∙ names.2)) are;
      number_low = subst (λ n. 1 ≤ n) (sym (ap (λ (x : LedgerParts). x.number) is ∙ names.0)) low;
      number_high = subst (λ n. n ≤ 16) (sym (ap (λ (x : LedgerParts). x.number) is ∙ names.0)) high;
      run_low = subst (λ n. 1 ≤ n) (sym (ap (λ (x : LedgerParts). x.run) is ∙ names.1)) run_low;
      run_high = subst (λ n. n < 2 ^ 32) (sym (ap (λ (x : LedgerParts). x.run) is ∙ names.1)) run_high;
      started = notes.started;
      clock = notes.clock;
      in_range = opened-InRange number run acts log l es is;
    })

pub outs-InRange : (l : LedgerParts) (h : Heard) (p : Phase) (outs : List Out) → Ranged l → answered_in l.notes.last ≤ 10000 →
    p ≡ phase_in l h → outs ≡ listed (standing_at l.acts l.notes p) → AreOuts outs
outs-InRange l h p outs r few p-is o-is =
    subst AreOuts (sym o-is) (listed-fits l.acts r.are_acts.each (standing_at l.acts l.notes p) (standing-fits l.acts r.are_acts.each l.notes p r.started r.in_range.stamp few
    (subst (PhaseFits l.acts r.are_acts.each l.notes) (sym p-is) (phase-fits l.acts r.are_acts.each l.run l.notes l.answers h r.in_range))))

pub turn-InRange : (l0 l : LedgerParts) (h : Heard) (first : Option Effect) (p : Phase) (effects : List Effect) (outs : List Out) (turn : Turn) → Ranged l0 → FirstInRange first →
    l ≡ ledger_from l0 first h → reverse effects ≡ effects_from l0 first h → p ≡ phase_in l h → outs ≡ listed (standing_at l.acts l.notes p) → answered_in l.notes.last ≤ 10000 →
    turn.effects ≡ effects → turn.outs ≡ outs → AreEffects turn.effects × AreOuts turn.outs
turn-InRange l0 l h first p effects outs turn r f l-is e-is p-is o-is few te to =
    let back : AreEffects (reverse (reverse effects)) = every-reverse IsEffect (reverse effects) (subst AreEffects (sym e-is) (gained l0 h first r f).0) in (
      subst AreEffects (sym te) (subst AreEffects (reverse-reverse effects) back),
      subst AreOuts (sym to) (outs-InRange l h p outs (ranged-after l0 l h first r f l-is) few p-is o-is),
    )

-- what a message adds
pub heard-InRange : (l : LedgerParts) (h : Heard) (p : Phase) (m : Message) (reply : Reply) (f : Effect) → Ranged l → IsMessage m →
    p ≡ phase_in l h → reply ≡ reply_at l.acts l.notes (kept l.notes l.answers) p h m → reply ≡ Adds f → FirstInRange (Some f)
heard-InRange l h p m reply f r is p-is reply-is adds =
    subst (ReplyFits l.acts r.are_acts.each) (sym reply-is ∙ adds)
    (reply-fits l.acts r.are_acts.each l.notes (kept l.notes l.answers) p h m r.started (subst (PhaseFits l.acts r.are_acts.each l.notes) (sym p-is) (phase-fits l.acts r.are_acts.each l.run l.notes l.answers h r.in_range)) is)
