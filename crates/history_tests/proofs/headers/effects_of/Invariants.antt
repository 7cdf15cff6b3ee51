use Rattle.effect_form.specs.Effects.{AreEffects}
use Rattle.history_tests.proofs.headers.effects_of.Given as goal

-- the effects so far are in range
abbrev pub invariant-loop-row : goal.invariant-loop-row
invariant-loop-row l = AreEffects l.effects.items
