use Rattle.std.proofs.Common.{◌≡◌, length}
use Rattle.token_form.specs.Tokens as spec
use Rattle.token_form.proofs.objects.objects_fit.Given as goal

-- the tokens so far fit
abbrev pub invariant-loop-token : goal.invariant-loop-token
invariant-loop-token l = spec.objects_fit l.greatest l.tokens ≡ spec.objects_fit l.greatest l.rest

abbrev pub decreases-loop-token : goal.decreases-loop-token
decreases-loop-token l = length l.rest
