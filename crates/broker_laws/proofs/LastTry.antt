-- of every log: the last try of the run, where it has no End, is the open try of the last act
use Rattle.broker_laws.proofs.Names.{StampParts, Task, Effect, Outcome, Act, Book, Try, book, close, enter, finish, front, gain, if_open, last_try, on_act, on_front, on_try, open_front, open_of, open_try, tries_of, add_if, calls_again, counts, fits, fits_end, fits_spent, fits_try, has_ended, is_none, keep, may_follow, rests, task_with, is_task, Answer, Got, Stored, Tree, ◌≡◌, ℕ, ◌==◌, nat_lt, Bool, true, false, length, List, [], ◌∷◌, ◌++◌, refl, sym, ◌∙◌, subst, Option, Some, None, if◌then◌else◌, eq-eqb, slice_get}
use Rattle.effect_form.specs.declared.effects.Effect.TheVariants as effect
use Rattle.effect_form.specs.declared.outcomes.Outcome.TheVariants as outcome
use Rattle.broker_laws.proofs.TestLemmas.{and-left, and-right}

ended_or_none : Option Try → Bool
ended_or_none None = true
ended_or_none (Some t) = if is_none t.end then false else true

-- the acts before have no open try, and a spent act has none
abbrev Calm : List Act → Type 0
Calm [] = Unit {0}
Calm (a ∷ done) = (ended_or_none (front (tries_of done)) ≡ true) × ((c : ℕ) → a.spent ≡ Some c → may_follow a.tries ≡ true)

again-ended : (o : Option Outcome) → calls_again o ≡ true → (if is_none o then false else true) ≡ true
again-ended None h = cc
again-ended (Some o) h = refl

calm-front : (spent : Option ℕ) (ts : List Try) (more : List Try) → (if is_none spent then has_ended ts else true) ≡ true →
    ((c : ℕ) → spent ≡ Some c → may_follow ts ≡ true) → ended_or_none (front more) ≡ true → ended_or_none (front (ts ++ more)) ≡ true
unfolding ended_or_none
calm-front spent [] more r c h = h
calm-front None (t ∷ ts) more r c h = r
calm-front (Some x) (t ∷ ts) more r c h = again-ended t.end (c x refl)

calm-act : (a : Act) (as' : List Act) → a.spent ≡ None → rests as' ≡ true → Calm as' → Calm (a ∷ as')
unfolding ended_or_none
calm-act a [] n r h = (refl, λ c e. let k : None ≡ Some c = sym n ∙ e in cc)
calm-act a (x ∷ done) n r h = (calm-front x.spent x.tries (tries_of done) r h.1 h.0, λ c e. let k : None ≡ Some c = sym n ∙ e in cc)

calm-try : (i me : ℕ) (s : StampParts) (clock : ℕ) (t : Act → Try) (as' : List Act) → fits_try me i s clock as' ≡ true → Calm as' → Calm (on_act (λ a. record a { tries = t a ∷ a.tries }) as')
calm-try i me s clock t [] f h = h
calm-try i me s clock t (a ∷ done) f h = (
  h.0,
  λ c e. let n : is_none a.spent ≡ true =
      and-left (is_none a.spent) _ (and-right (nat_lt clock s.clock) _ (and-right (s.home == a.task.home) _ (and-right (s.broker == me) _ (and-right (i == a.task.index) _ f)))) in
      let k : is_none (Some c) ≡ true = subst (λ o. is_none o ≡ true) e n in let z : false ≡ true = k in cc,
)

calm-gain : (x : Answer) (as' : List Act) → Calm as' → Calm (on_try (gain x) as')
calm-gain x [] h = h
calm-gain x (a ∷ done) h = (h.0, λ c e. (elim a.tries as (λ ts. may_follow ts ≡ true → may_follow (on_front (gain x) ts) ≡ true) [ [] ↦ λ k. k | t ∷ ts ↦ λ k. k ]) (h.1 c e))

calm-end : (o : Outcome) (i : ℕ) (as' : List Act) → fits_end i (open_of as') ≡ true → Calm as' → Calm (on_try (finish o) as')
calm-end o i [] f h = h
calm-end o i (a ∷ done) f h = (h.0, λ c e. absurd ((elim a.tries as (λ ts. fits_end i (open_front ts) ≡ true → may_follow ts ≡ true → ⊥) [ [] ↦ λ f k. cc | t ∷ ts ↦ λ f k. none-open t t.end f k ]) f (h.1 c e)))
  where
    none-open : (t : Try) (x : Option Outcome) → fits_end i (if_open t x) ≡ true → calls_again x ≡ true → ⊥
    none-open t None f k = cc
    none-open t (Some p) f k = cc

calm-spent : (n i : ℕ) (as' : List Act) → fits_spent i as' ≡ true → Calm as' → Calm (on_act (λ a. record a { spent = Some n }) as')
calm-spent n i [] f h = h
calm-spent n i (a ∷ done) f h = (h.0, λ c e. and-right (is_none a.spent) _ (and-right (i == a.task.index) _ f))

module _ (script : List ℕ → Tree) (me run : ℕ) (acts : List Task) where
  calm-close : (i : ℕ) (o : Outcome) (b : Book) → fits script me acts b (effect.End i o) ≡ true → Calm b.acts → Calm (close o b).acts
  calm-close i (outcome.Spent c) b f h = calm-spent c i b.acts f h
  calm-close i o b f h = calm-end o i b.acts f h

  run-close : (o : Outcome) (b : Book) → (close o b).run ≡ b.run
  run-close outcome.Committed b = refl
  run-close o b = refl

  fits-here : (b : Book) (x : Bool) → b.run ≡ run → (if b.run == run then x else true) ≡ true → x ≡ true
  fits-here b x e h = subst (λ c. (if c then x else true) ≡ true) (eq-eqb b.run run e) h

  calm-enter : (b : Book) (f : Effect) → counts script me run acts b f ≡ true → (b.run ≡ run → Calm b.acts) → (enter f b).run ≡ run → Calm (enter f b).acts
  calm-enter b (effect.Run n) f h e = tt
  calm-enter b (effect.Act i x t k c y) f h e =
      calm-act (record { run = b.run; task = task_with i x t k c y; tries = []; spent = None }) b.acts refl (and-right (is_task (slice_get acts (length b.acts)) (task_with i x t k c y)) (rests b.acts) (fits-here b _ e f)) (h e)
  calm-enter b (effect.Try i s) f h e = calm-try i me s b.clock _ b.acts (fits-here b _ e f) (h e)
  calm-enter b (effect.Got k v) f h e = calm-gain (Got v) b.acts (h e)
  calm-enter b (effect.Acked k) f h e = calm-gain Stored b.acts (h e)
  calm-enter b (effect.End i o) f h e = let r = sym (run-close o b) ∙ e in calm-close i o b (fits-here b _ r f) (h r)
  calm-enter b g f h e = h e

  calm-add : (c : Bool) (f : Effect) (kept : List Effect) → counts script me run acts (book kept) f ≡ c →
      ((book kept).run ≡ run → Calm (book kept).acts) → (book (add_if c f kept)).run ≡ run → Calm (book (add_if c f kept)).acts
  unfolding book
  calm-add true f kept e h r = calm-enter (book kept) f e h r
  calm-add false f kept e h r = h r

  calm : (log : List Effect) → (book (keep script me run acts log)).run ≡ run → Calm (book (keep script me run acts log)).acts
  unfolding keep book
  calm [] r = tt
  calm (f ∷ log) r = calm-add (counts script me run acts (book (keep script me run acts log)) f) f (keep script me run acts log) refl (λ e. calm log e) r

  last-open : (as' : List Act) (t : Try) → Calm as' → front (tries_of as') ≡ Some t → t.end ≡ None → open_of as' ≡ Some t
  unfolding ended_or_none
  last-open [] t c l n = cc
  last-open (a ∷ done) t c l n = by a.tries l
    where
      by : (ts : List Try) → front (ts ++ tries_of done) ≡ Some t → open_front ts ≡ Some t
      by [] l =
          let k : ended_or_none (Some t) ≡ true = subst (λ o. ended_or_none o ≡ true) l c.0 in
          let z : false ≡ true = subst (λ o. (if is_none o then false else true) ≡ true) n k in cc
      by (x ∷ ts) l =
          let e : x ≡ t = cc in
          subst (λ (y : Try). if_open y y.end ≡ Some t) (sym e) (subst (λ o. if_open t o ≡ Some t) (sym n) refl)

  -- the last try without an end is the open one
  pub last-is-open : (log : List Effect) (t : Try) → (book (keep script me run acts log)).run ≡ run →
      last_try (book (keep script me run acts log)) ≡ Some t → t.end ≡ None → open_try (book (keep script me run acts log)) ≡ Some t
  last-is-open log t r l n = last-open (book (keep script me run acts log)).acts t (calm log r) l n
