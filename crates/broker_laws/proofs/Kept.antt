-- on a tidy, ready log the part that counts is the whole log, and its acts are the plan's
use Rattle.broker_laws.proofs.Names.{StampParts, Task, Effect, Outcome, Act, Book, Try, book, close, enter, on_act, open_try, add_if, another, calls_again, counts, first_some, fits, fits_end, fits_spent, fits_try, is_none, keep, may_follow, other_plan, rests, stop_of, unfit_act, task_with, is_task, Started, EndFits, FitsBook, IsTidy, MayTry, Tree, ◌≡◌, ℕ, ◌+◌, ◌<◌, ◌==◌, nat_lt, Bool, true, false, ◌&&◌, length, List, [], ◌∷◌, refl, sym, ◌∙◌, ap, subst, Option, Some, None, if◌then◌else◌, eq-eqb, lt-ltb, slice_get, fits_acked, fits_got, fits_outcome, reads_now, writes_now, OpenAt}
use Rattle.effect_form.specs.declared.effects.Effect.TheVariants as effect
use Rattle.effect_form.specs.declared.outcomes.Outcome.TheVariants as outcome
use Rattle.broker_laws.proofs.TestLemmas.{and-both, and-left, is_task-is}

pub if-true : (e f : Bool) → f ≡ true → (if e then f else true) ≡ true
if-true true f h = h
if-true false f h = refl

pub act-fits : (e f : Bool) (i : ℕ) → (if e && (if f then false else true) then Some i else None) ≡ None → (if e then f else true) ≡ true
act-fits true true i h = refl
act-fits true false i h = cc
act-fits false f i h = refl

pub act-fits-here : (e f : Bool) (i : ℕ) → e ≡ true → (if e && (if f then false else true) then Some i else None) ≡ None → f ≡ true
act-fits-here true true i k h = refl
act-fits-here true false i k h = cc
act-fits-here false f i k h = cc

pub fit-planned : (e f : Bool) (i : ℕ) → f ≡ true → (if e && (if f then false else true) then Some i else None) ≡ None
fit-planned true true i h = refl
fit-planned true false i h = cc
fit-planned false f i h = refl

module _ (script : List ℕ → Tree) (me : ℕ) where
  follows : (most : ℕ) (ts : List Try) → another most ts ≡ true → may_follow ts ≡ true
  follows most [] h = refl
  follows most (t ∷ ts) h = and-left (calls_again t.end) (nat_lt (length (t ∷ ts)) most) h

  try-fits : (i : ℕ) (s : StampParts) (clock : ℕ) (acts : List Act) → MayTry i acts (λ a. (s.broker ≡ me) × (s.home ≡ a.task.home) × (clock < s.clock)) → fits_try me i s clock acts ≡ true
  try-fits i s clock [] h = absurd h
  try-fits i s clock (a ∷ acts) h =
      and-both (eq-eqb i a.task.index h.0) (and-both (eq-eqb s.broker me h.3.0) (and-both (eq-eqb s.home a.task.home h.3.1)
      (and-both (lt-ltb clock s.clock h.3.2) (and-both (ap is_none h.1) (follows a.task.tries a.tries h.2)))))

  spent-fits : (i : ℕ) (acts : List Act) (P : Act → Type 0) → MayTry i acts P → fits_spent i acts ≡ true
  spent-fits i [] P h = absurd h
  spent-fits i (a ∷ acts) P h = and-both (eq-eqb i a.task.index h.0) (and-both (ap is_none h.1) (follows a.task.tries a.tries h.2))

  end-fits : (i : ℕ) (b : Book) (P : Try → Type 0) → OpenAt b (λ t. (i ≡ t.task.index) × P t) → fits_end i (open_try b) ≡ true
  end-fits i b P h = subst (λ o. fits_end i o ≡ true) (sym h.1) (eq-eqb i h.0.task.index h.2.0)

  outcome-fits : (i : ℕ) (o : Outcome) (b : Book) → EndFits script i o b → fits_outcome i o b ≡ true
  outcome-fits i (outcome.Spent c) b h = spent-fits i b.acts _ h
  outcome-fits i o b h = end-fits i b _ h

  got-fits : (k : ℕ) (o : Option Try) (t : Try) → o ≡ Some t → k ≡ length t.answers + 1 → reads_now (stop_of script t) ≡ true → fits_got script k o ≡ true
  got-fits k o t e n r = subst (λ x. fits_got script k x ≡ true) (sym e) (and-both (eq-eqb k (length t.answers + 1) n) r)

  acked-fits : (k : ℕ) (o : Option Try) (t : Try) → o ≡ Some t → k ≡ length t.answers + 1 → writes_now (stop_of script t) ≡ true → fits_acked script k o ≡ true
  acked-fits k o t e n r = subst (λ x. fits_acked script k x ≡ true) (sym e) (and-both (eq-eqb k (length t.answers + 1) n) r)

  module _ (run : ℕ) (acts : List Task) where
    -- an effect that fits without the plan, and is no foreign Act, counts
    pub fit-counts : (b : Book) (f : Effect) → FitsBook script me b f → unfit_act script me run acts b f ≡ None → counts script me run acts b f ≡ true
    fit-counts b (effect.Run n) h p = lt-ltb b.run n h
    fit-counts b (effect.Act i x t k c y) h p = act-fits (b.run == run) (fits script me acts b (effect.Act i x t k c y)) i p
    fit-counts b (effect.Try i s) h p = if-true (b.run == run) _ (try-fits i s b.clock b.acts h)
    fit-counts b (effect.Got k v) h p = if-true (b.run == run) _ (got-fits k (open_try b) h.0 h.1 h.2.0 (subst (λ s. reads_now s ≡ true) (sym h.2.1.1) refl))
    fit-counts b (effect.Acked k) h p = if-true (b.run == run) _ (acked-fits k (open_try b) h.0 h.1 h.2.0 (subst (λ s. writes_now s ≡ true) (sym h.2.1.2) refl))
    fit-counts b (effect.End i o) h p = if-true (b.run == run) _ (outcome-fits i o b h)
    fit-counts b f h p = absurd h

    pub first-none : (x y : Option ℕ) → first_some x y ≡ None → (x ≡ None) × (y ≡ None)
    first-none None y h = (refl, h)
    first-none (Some x) y h = cc

    -- the log that counts is the log
    pub kept : (log : List Effect) → IsTidy script me log → other_plan script me run acts log ≡ None → keep script me run acts log ≡ log
    unfolding other_plan keep
    kept [] t p = refl
    kept (f ∷ log) t p =
        let n = first-none (other_plan script me run acts log) (unfit_act script me run acts (book (keep script me run acts log)) f) p in
        let ih : keep script me run acts log ≡ log = kept log t.0 n.0 in
        let u : unfit_act script me run acts (book log) f ≡ None = subst (λ k. unfit_act script me run acts (book k) f ≡ None) ih n.1 in
        subst (λ k. add_if (counts script me run acts (book k) f) f k ≡ f ∷ log) (sym ih)
        (subst (λ c. add_if c f log ≡ f ∷ log) (sym (fit-counts (book log) f t.1 u)) refl)

    -- its acts are the PLAN'S
    started-on : (g : Act → Act) → ((a : Act) → (g a).task ≡ a.task) → (as' : List Act) → Started acts as' → Started acts (on_act g as')
    started-on g s [] h = h
    started-on g s (a ∷ done) h = (h.0, h.1 ∙ ap (λ x. Some x) (sym (s a)))

    started-close : (o : Outcome) (b : Book) → Started acts b.acts → Started acts (close o b).acts
    started-close outcome.Committed b h = started-on _ (λ a. refl) b.acts h
    started-close o b h = started-on _ (λ a. refl) b.acts h

    run-close : (o : Outcome) (b : Book) → (close o b).run ≡ b.run
    run-close outcome.Committed b = refl
    run-close o b = refl

    started-enter : (b : Book) (f : Effect) → (b.run ≡ run → Started acts b.acts) → unfit_act script me run acts b f ≡ None → (enter f b).run ≡ run → Started acts (enter f b).acts
    started-enter b (effect.Run n) h u r = tt
    started-enter b (effect.Act i x t k c y) h u r = (
      h r,
      is_task-is (slice_get acts (length b.acts)) (task_with i x t k c y)
          (and-left (is_task (slice_get acts (length b.acts)) (task_with i x t k c y)) (rests b.acts)
          (act-fits-here (b.run == run) (fits script me acts b (effect.Act i x t k c y)) i (eq-eqb b.run run r) u)),
    )
    started-enter b (effect.Try i s) h u r = started-on _ (λ a. refl) b.acts (h r)
    started-enter b (effect.Got k v) h u r = started-on _ (λ a. refl) b.acts (h r)
    started-enter b (effect.Acked k) h u r = started-on _ (λ a. refl) b.acts (h r)
    started-enter b (effect.End i o) h u r = started-close o b (h (sym (run-close o b) ∙ r))
    started-enter b f h u r = h r

    pub started : (log : List Effect) → IsTidy script me log → other_plan script me run acts log ≡ None → (book log).run ≡ run → Started acts (book log).acts
    unfolding book other_plan
    started [] t p r = tt
    started (f ∷ log) t p r =
        let n = first-none (other_plan script me run acts log) (unfit_act script me run acts (book (keep script me run acts log)) f) p in
        started-enter (book log) f (λ e. started log t.0 n.0 e) (subst (λ x. unfit_act script me run acts (book x) f ≡ None) (kept log t.0 n.0) n.1) r
