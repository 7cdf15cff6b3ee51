use Rattle.std.proofs.Common.{◌++◌, ◌∷◌, arith, ap, subst, sym, ◌∙◌}
use Rattle.log_replay.specs.Whole.{IsWhole}
use Rattle.log_replay.proofs.UnfitLemmas.{next-draft, none-left}
use Rattle.log_replay.proofs.wholes.alone.Goals as goal

pub loop-effect-preserved : goal.loop-effect-preserved
loop-effect-preserved c =
    let now = c.loop-effect.invariant in
    let f = c.in-Some.effect in (
      f ∷ now.0,
      sym (next-draft c.loop-effect.left.items c.pop.new.self.items now.0 f c.in-Some.ensures.items) ∙ now.1,
      c.in_ok-add.ensures now.0 now.2,
    )

pub returns : goal.returns
returns c =
    let now = c.loop-effect.invariant in
    let left = c.loop-effect.left.ok in
    let none = none-left c.loop-effect.left.items (λ low. c.in_default.ensures.variant.1 (omega (arith, low, left))) in
    subst (λ z. IsWhole z c.loop-effect.whole) (ap (λ z. z ++ now.0) (sym none) ∙ now.1) now.2
