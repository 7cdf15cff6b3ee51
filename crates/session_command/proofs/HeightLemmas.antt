-- The heights of openings cover their logs.
use Rattle.std.proofs.Common.{◌≤◌, ℕ, List, [], ◌∷◌, arith, subst}
use Rattle.pseudo_time.specs.Lists.{Every}
use Rattle.effect_form.specs.declared.effects.Effect.{Effect}
use Rattle.plan_volumes.specs.Media.{Media}
use Rattle.plan_volumes.specs.Opening.{Opening}
use Rattle.plan_volumes.specs.Openings.{log_in}
use Rattle.session_form.specs.declared.heights.Heights.{Heights}
use Rattle.session_form.specs.Heights.{Covers, IsNoLower, clock_in, run_in, with_log}
use Rattle.session_form.proofs.HeightLemmas.{covers, rises}
use Rattle.session_command.specs.Above.{reached, reached_from}

lower-trans : (a b c : Heights) → IsNoLower a b → IsNoLower b c → IsNoLower a c
lower-trans a b c x y = let p = x.0 in let q = x.1 in let r = y.0 in let s = y.1 in (omega (arith, p, r), omega (arith, q, s))

covers-lower : (a b : Heights) (log : List Effect) → IsNoLower a b → Covers a log → Covers b log
covers-lower a b [] low k = tt
covers-lower a b (f ∷ log) low k = let p = low.0 in let q = low.1 in let r = k.0.0 in let s = k.0.1 in ((omega (arith, p, r), omega (arith, q, s)), covers-lower a b log low k.1)

module _ {M : Type 0} {w : Media M} where
  reached-rises : (h : Heights) (os : List (Opening M w)) → IsNoLower h (reached_from h os)
  reached-rises h [] = (omega arith, omega arith)
  reached-rises h (o ∷ os) = lower-trans h (with_log h (log_in o)) (reached_from (with_log h (log_in o)) os) (rises h (log_in o)) (reached-rises (with_log h (log_in o)) os)

  reached-covers : (h : Heights) (os : List (Opening M w)) → Every (λ (o : Opening M w). Covers (reached_from h os) (log_in o)) os
  reached-covers h [] = tt
  reached-covers h (o ∷ os) = (covers-lower (with_log h (log_in o)) (reached_from (with_log h (log_in o)) os) (log_in o) (reached-rises (with_log h (log_in o)) os) (covers h (log_in o)), reached-covers (with_log h (log_in o)) os)

  pub all-covered : (os : List (Opening M w)) → Every (λ (o : Opening M w). Covers (reached os) (log_in o)) os
  all-covered os = reached-covers (record { run = 0; clock = 0 }) os
