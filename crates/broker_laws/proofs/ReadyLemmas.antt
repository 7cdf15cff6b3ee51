-- a log is ready exactly where opening it gives no fault
use Rattle.broker_laws.proofs.Names.{Task, Effect, Outcome, Book, book, close, enter, add_if, counts, first_some, fits, keep, other_plan, unfit_act, IsReady, Tree, ◌≡◌, ℕ, ◌==◌, nat_lt, Bool, true, false, ◌&&◌, List, [], ◌∷◌, refl, sym, subst, Option, Some, None, if◌then◌else◌, arith, common_steps, plan_fault, resume_fault}
use Rattle.effect_form.specs.declared.effects.Effect.TheVariants as effect
use Rattle.effect_form.specs.declared.outcomes.Outcome.TheVariants as outcome
use Rattle.broker_core.specs.ResumeFault.{ResumeFault}
use Rattle.broker_core.specs.ResumeFault.TheVariants as fault

module _ (script : List ℕ → Tree) (me run : ℕ) (acts : List Task) where
  run-close : (o : Outcome) (b : Book) → (close o b).run ≡ b.run
  run-close outcome.Committed b = refl
  run-close o b = refl

  was-below : (b : Book) (f : Effect) → counts script me run acts b f ≡ true → nat_lt (enter f b).run run ≡ true → nat_lt b.run run ≡ true
  was-below b (effect.Run n) c h = grind (arith, common_steps)
  was-below b (effect.Act i x t k y z) c h = h
  was-below b (effect.Try i s) c h = h
  was-below b (effect.Got k v) c h = h
  was-below b (effect.Acked k) c h = h
  was-below b (effect.End i o) c h = subst (λ n. nat_lt n run ≡ true) (run-close o b) h
  was-below b f c h = h

  not-this : (b : Book) → nat_lt b.run run ≡ true → (b.run == run) ≡ false
  not-this b h = grind (arith, common_steps)

  no-unfit : (b : Book) (f : Effect) → nat_lt b.run run ≡ true → unfit_act script me run acts b f ≡ None
  no-unfit b (effect.Act i x t k y z) h = subst (λ c. (if c && (if fits script me acts b (effect.Act i x t k y z) then false else true) then Some i else None) ≡ None) (sym (not-this b h)) refl
  no-unfit b f h = refl

  was-add : (c : Bool) (f : Effect) (kept : List Effect) → counts script me run acts (book kept) f ≡ c → nat_lt (book (add_if c f kept)).run run ≡ true → nat_lt (book kept).run run ≡ true
  unfolding book
  was-add true f kept e h = was-below (book kept) f e h
  was-add false f kept e h = h

  -- before the run has begun there is no OtherPlan
  pub never-yet : (log : List Effect) → nat_lt (book (keep script me run acts log)).run run ≡ true → other_plan script me run acts log ≡ None
  unfolding keep other_plan
  never-yet [] h = refl
  never-yet (f ∷ log) h =
      let k : nat_lt (book (keep script me run acts log)).run run ≡ true =
      was-add (counts script me run acts (book (keep script me run acts log)) f) f (keep script me run acts log) refl h in
      subst (λ x. first_some x (unfit_act script me run acts (book (keep script me run acts log)) f) ≡ None) (sym (never-yet log k))
      (no-unfit (book (keep script me run acts log)) f k)

  -- ready is: no fault
  apart : (m n : ℕ) → nat_lt n m ≡ false → (m == n) ≡ false → nat_lt m n ≡ true
  apart m n h k = grind (arith, common_steps)

  plan-none : (o : Option ℕ) → plan_fault o ≡ None → o ≡ None
  plan-none None h = refl
  plan-none (Some i) h = cc

  pub no-fault : (log : List Effect) → resume_fault script me run acts log ≡ None → IsReady script me run acts log
  no-fault log h =
      first (nat_lt run (book (keep script me run acts log)).run) ((book (keep script me run acts log)).run == run) refl refl h
    where
      first : (c d : Bool) → nat_lt run (book (keep script me run acts log)).run ≡ c → ((book (keep script me run acts log)).run == run) ≡ d →
          (if c then Some (fault.OldRun (book (keep script me run acts log)).run) else (if d then plan_fault (other_plan script me run acts log) else None)) ≡ None →
          IsReady script me run acts log
      first true d e k h = cc
      first false true e k h = record { not_old = e; same_plan = plan-none (other_plan script me run acts log) h }
      first false false e k h = record { not_old = e; same_plan = never-yet log (apart (book (keep script me run acts log)).run run e k) }

  same-either : (c : Bool) → ◌≡◌ {A = Option ResumeFault} (if c then None else None) None
  same-either true = refl
  same-either false = refl

  pub fault-none : (log : List Effect) → IsReady script me run acts log → resume_fault script me run acts log ≡ None
  fault-none log r =
      subst (λ c. (if c then Some (fault.OldRun (book (keep script me run acts log)).run) else (if (book (keep script me run acts log)).run == run then plan_fault (other_plan script me run acts log) else None)) ≡ None)
      (sym r.not_old)
      (subst (λ o. (if (book (keep script me run acts log)).run == run then plan_fault o else None) ≡ None) (sym r.same_plan)
      (same-either ((book (keep script me run acts log)).run == run)))
