-- What may be added to the notes: an effect that is owed, and what a message adds.
use Rattle.broker_core.proofs.Names.{ActSpec, Value, Effect, ToRead, ToWrite, Stop, Asks, Over, IsAnswerTo, Given, Heard, Last, Notes, Phase, is_none, reads_now, writes_now, unended, open_last, act_at, stop_at, most_of, another_at, fits_at, fits_step_at, start_at, shown_at, by_clock_at, try_or_spent_at, closed_in, after_tries_at, by_phase, owed_at, IsAskedFor, MayAdd, MayBegin, IsHeard, ◌≡◌, ◌≢◌, ℕ, max, ◌+◌, ◌<◌, ◌==◌, nat_lt, Bool, true, false, ◌&&◌, length, List, refl, sym, ◌∙◌, subst, Option, Some, None, if◌then◌else◌, arith, common_steps, eqb-true, eq-eqb, false≢true, slice_get_within, slice_get, ◌-◌, ◌≤◌, inl, inr, slice_get_cases}
use Rattle.broker_ledger.specs.Effect.TheVariants as effect
use Rattle.broker_ledger.specs.Meaning as meaning
use Rattle.broker_ledger.specs.declared.givens.Given.TheVariants as given
use Rattle.broker_core.specs.declared.phases.Phase.TheVariants as phase
use Rattle.broker_ledger.proofs.SoundLemmas.{and-right}

-- the act that was begun last is there
pub act-there : (acts : List ActSpec) (n : Notes) → n.started ≢ 0 → n.started ≤ length acts → act_at acts n ≢ None
act-there acts n s l = there (n.started == 0) refl
  where
    place : (i : ℕ) → i < length acts → slice_get acts i ≢ None
    place i h = elim (slice_get_cases acts i).1 [
      | inl k ↦ λ q. (let w : Some k.0 ≡ None = sym k.2 ∙ q in cc)
      | inr k ↦ absurd (omega arith)
    ]

    there : (c : Bool) → (n.started == 0) ≡ c → (if c then None else slice_get acts (n.started - 1)) ≢ None
    there true e = absurd (s (eqb-true n.started 0 e))
    there false e = place (n.started - 1) (omega arith)

-- ---- an open try

open-cases : (n : Notes) (l : Last) (c : Bool) (o : Option Last) → (n.tries == 0) ≡ c → n.last ≡ o → (if c then None else unended o) ≡ Some l → (n.tries ≢ 0) × (n.last ≡ Some l)
open-cases n l true o z e h = cc
open-cases n l false None z e h = cc
open-cases n l false (Some m) z e h = (λ q. false≢true (sym z ∙ eq-eqb n.tries 0 q), e ∙ same (is_none m.end) h)
  where
    same : (c : Bool) → (if c then Some m else None) ≡ Some l → Some m ≡ Some l
    same true h = h
    same false h = cc

-- there is a try, and it is the last
pub open-tried : (n : Notes) (l : Last) → open_last n ≡ Some l → (n.tries ≢ 0) × (n.last ≡ Some l)
open-tried n l h = open-cases n l (n.tries == 0) n.last refl refl h

some-not : (o : Option Last) (l : Last) → o ≡ Some l → o ≢ None
some-not o l e q = let k : Some l ≡ None = sym e ∙ q in cc

module _ (acts : List ActSpec) (n : Notes) (answers : List Given) where
  -- ---- an effect that is owed

  start-may : (o : Option ActSpec) (i : ℕ) → i ≡ n.started → slice_get acts i ≡ o → MayBegin acts n answers (start_at o)
  start-may None i e s = tt
  start-may (Some a) i e s = subst (λ (x : ℕ). x < length acts) e (slice_get_within acts i a s)

  above : (last shown : ℕ) → last < max last shown + 1
  above last shown = grind (arith, common_steps)

  clock-may : (me : ℕ) (a : Option ActSpec) (shown : ℕ) (c : Bool) → MayAdd acts n answers (by_clock_at me a n (if c then Some (max n.clock shown + 1) else None))
  clock-may me a shown true = above n.clock shown
  clock-may me a shown false = tt

  try-may : (me : ℕ) → MayAdd acts n answers (try_or_spent_at me (act_at acts n) n)
  try-may me = clock-may me (act_at acts n) (shown_at (act_at acts n) n) (nat_lt (max n.clock (shown_at (act_at acts n) n)) 1099511627775)

  tries-may : (me : ℕ) (a b c : Bool) → MayBegin acts n answers
      (if a then Some (try_or_spent_at me (act_at acts n) n) else (if b then (if c then Some (try_or_spent_at me (act_at acts n) n) else start_at (slice_get acts n.started)) else None))
  tries-may me true b c = try-may me
  tries-may me false true true = try-may me
  tries-may me false true false = start-may (slice_get acts n.started) n.started refl refl
  tries-may me false false c = tt

  due-may : (me : ℕ) (h : Heard) (a b : Bool) → (n.started == 0) ≡ a → MayBegin acts n answers
      (if a then start_at (slice_get acts 0) else (if b then start_at (slice_get acts n.started) else after_tries_at me acts h n))
  due-may me h true b e = start-may (slice_get acts 0) 0 (sym (eqb-true n.started 0 e)) refl
  due-may me h false true e = start-may (slice_get acts n.started) n.started refl refl
  due-may me h false false e = tries-may me (n.tries == 0) (closed_in h n.last) (another_at (most_of (act_at acts n)) n)

  phase-may : (me : ℕ) (h : Heard) (p : Phase) → MayBegin acts n answers (by_phase me acts h n p)
  phase-may me h (phase.Stopping o) = tt
  phase-may me h x = due-may me h (n.started == 0) n.spent refl

  run-may : (me run : ℕ) (h : Heard) (p : Phase) (c : Bool) → MayBegin acts n answers (if c then Some (effect.Run run) else by_phase me acts h n p)
  run-may me run h p true = tt
  run-may me run h p false = phase-may me h p

  pub owed-may : (me run : ℕ) (h : Heard) (p : Phase) (f : Effect) → owed_at me acts run n h p ≡ Some f → MayAdd acts n answers f
  owed-may me run h p f e = subst (MayBegin acts n answers) e (run-may me run h p (nat_lt n.run run))

  -- ---- what a message adds

  got-may : (k : ℕ) (v : Value) (o : Option Last) (s : Stop) → open_last n ≡ o → stop_at acts n answers ≡ s → (fits_step_at k o && reads_now s) ≡ true → IsAskedFor acts n answers (given.Got v)
  got-may k v None s e q t = absurd (false≢true t)
  got-may k v (Some l) (Asks (ToRead x)) e q t =
      let h = open-tried n l e in record { tried = h.0; last = some-not n.last l h.1; asks = subst (λ (z : Stop). IsAnswerTo z (meaning.Got v)) (sym q) tt }
  got-may k v (Some l) (Asks (ToWrite x y)) e q t = absurd (false≢true (and-right (k == l.answered + 1) false t))
  got-may k v (Some l) (Over x) e q t = absurd (false≢true (and-right (k == l.answered + 1) false t))

  acked-may : (k : ℕ) (o : Option Last) (s : Stop) → open_last n ≡ o → stop_at acts n answers ≡ s → (fits_step_at k o && writes_now s) ≡ true → IsAskedFor acts n answers given.Stored
  acked-may k None s e q t = absurd (false≢true t)
  acked-may k (Some l) (Asks (ToRead x)) e q t = absurd (false≢true (and-right (k == l.answered + 1) false t))
  acked-may k (Some l) (Asks (ToWrite x y)) e q t =
      let h = open-tried n l e in record { tried = h.0; last = some-not n.last l h.1; asks = subst (λ (z : Stop). IsAnswerTo z meaning.Stored) (sym q) tt }
  acked-may k (Some l) (Over x) e q t = absurd (false≢true (and-right (k == l.answered + 1) false t))

  -- where it fits
  pub heard-may : (me : ℕ) (f : Effect) → IsHeard f → fits_at me acts n answers f ≡ true → MayAdd acts n answers f
  heard-may me (effect.Run m) h t = absurd h
  heard-may me (effect.Act i x y k c z) h t = absurd h
  heard-may me (effect.Try i s) h t = absurd h
  heard-may me (effect.Got k v) h t = got-may k v (open_last n) (stop_at acts n answers) refl refl t
  heard-may me (effect.Acked k) h t = acked-may k (open_last n) (stop_at acts n answers) refl refl t
  heard-may me (effect.End i o) h t = tt
  heard-may me f h t = absurd h
