-- an act has no more tries than it may have, and it is spent only where no greater clock is left
use Rattle.broker_laws.proofs.Names.{Effect, Outcome, Act, Book, Try, book, close, enter, gain, on_act, on_front, on_try, another, calls_again, next_clock, shown_to, EndFits, FitsBook, IsTidy, MayTry, Every, Got, Stored, Tree, ◌≡◌, ℕ, ◌+◌, ◌<◌, ◌≤◌, max, nat_lt, Bool, true, false, length, List, [], ◌∷◌, ◌++◌, refl, sym, subst, Some, None, if◌then◌else◌, arith, ltb-true, common_steps, IsWithinLimits}
use Rattle.effect_form.specs.declared.effects.Effect.TheVariants as effect
use Rattle.effect_form.specs.declared.outcomes.Outcome.TheVariants as outcome
use Rattle.broker_laws.proofs.TestLemmas.{and-right}

no-clock : (last shown c : ℕ) → next_clock last shown ≡ None → c ≡ max last shown → 1099511627775 ≤ c
no-clock last shown c h e = by (nat_lt (max last shown) 1099511627775) refl h
  where
    by : (y : Bool) → nat_lt (max last shown) 1099511627775 ≡ y → (if y then Some (max last shown + 1) else None) ≡ None → 1099511627775 ≤ c
    by true k w = cc
    by false k w = grind (arith, common_steps)

more-tries : (most : ℕ) (ts : List Try) (t : Try) → another most ts ≡ true → length (t ∷ ts) ≤ max 1 most
more-tries most [] t h = omega arith
more-tries most (x ∷ ts) t h = let k : length (x ∷ ts) < most = ltb-true (length (x ∷ ts)) most (and-right (calls_again x.end) _ h) in omega arith

front-length : (g : Try → Try) (ts : List Try) → length (on_front g ts) ≡ length ts
front-length g [] = refl
front-length g (t ∷ ts) = refl

module _ (script : List ℕ → Tree) (me : ℕ) where
  within-on : (g : Try → Try) (acts past : List Act) → Every IsWithinLimits (acts ++ past) → Every IsWithinLimits (on_try g acts ++ past)
  within-on g [] past h = h
  within-on g (a ∷ acts) past h = ((h.0.0, subst (λ n. n ≤ max 1 a.task.tries) (sym (front-length g a.tries)) h.0.1), h.1)

  within-try : (i : ℕ) (t : Act → Try) (acts past : List Act) (P : Act → Type 0) → MayTry i acts P → Every IsWithinLimits (acts ++ past) →
      Every IsWithinLimits (on_act (λ a. record a { tries = t a ∷ a.tries }) acts ++ past)
  within-try i t [] past P f h = h
  within-try i t (a ∷ acts) past P f h = ((h.0.0, more-tries a.task.tries a.tries (t a) f.2), h.1)

  within-spent : (i c : ℕ) (b : Book) (acts past : List Act) → MayTry i acts (λ a. (next_clock b.clock (shown_to b a) ≡ None) × (c ≡ max b.clock (shown_to b a))) →
      Every IsWithinLimits (acts ++ past) → Every IsWithinLimits (on_act (λ a. record a { spent = Some c }) acts ++ past)
  within-spent i c b [] past f h = h
  within-spent i c b (a ∷ acts) past f h = ((λ n e. let k : c ≡ n = cc in subst (λ z. 1099511627775 ≤ z) k (no-clock b.clock (shown_to b a) c f.3.0 f.3.1), h.0.1), h.1)

  within-close : (i : ℕ) (o : Outcome) (b : Book) → EndFits script i o b → Every IsWithinLimits (b.acts ++ b.past) → Every IsWithinLimits ((close o b).acts ++ (close o b).past)
  within-close i (outcome.Spent c) b f h = within-spent i c b b.acts b.past f h
  within-close i o b f h = within-on _ b.acts b.past h

  within-enter : (b : Book) (f : Effect) → FitsBook script me b f → Every IsWithinLimits (b.acts ++ b.past) → Every IsWithinLimits ((enter f b).acts ++ (enter f b).past)
  within-enter b (effect.Run n) f h = h
  within-enter b (effect.Act i x t k c y) f h = ((λ n e. let z : None ≡ Some n = e in cc, omega arith), h)
  within-enter b (effect.Try i s) f h = within-try i _ b.acts b.past _ f h
  within-enter b (effect.Got k v) f h = within-on (gain (Got v)) b.acts b.past h
  within-enter b (effect.Acked k) f h = within-on (gain Stored) b.acts b.past h
  within-enter b (effect.End i o) f h = within-close i o b f h
  within-enter b g f h = absurd f

  pub within : (log : List Effect) → IsTidy script me log → Every IsWithinLimits ((book log).acts ++ (book log).past)
  unfolding book
  within [] h = tt
  within (f ∷ log) h = within-enter (book log) f h.1 (within log h.0)
