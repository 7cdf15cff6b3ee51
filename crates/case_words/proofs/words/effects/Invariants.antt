use Rattle.effect_form.specs.Effects.{AreEffects}
use Rattle.case_words.proofs.words.effects.Given as goal

-- those so far
abbrev pub invariant-loop-word : goal.invariant-loop-word
invariant-loop-word l = AreEffects l.all.items
