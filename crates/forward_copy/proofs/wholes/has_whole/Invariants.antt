use Rattle.std.proofs.Common.{◌≡◌, drop}
use Rattle.forward_copy.specs.Wholes as spec
use Rattle.forward_copy.proofs.wholes.has_whole.Given as goal

-- no Whole stands among the effects so far
abbrev pub invariant-loop-effect : goal.invariant-loop-effect
invariant-loop-effect l = spec.has_whole (drop l.effect-index l.log) ≡ spec.has_whole l.log
