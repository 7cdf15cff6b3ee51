use Rattle.std.proofs.Common.{◌≡◌, reverse, take}
use Rattle.std.specs.FinMap as finite
use Rattle.forward_copy.specs.Opens as spec
use Rattle.forward_copy.proofs.opens.first_open.Given as goal

-- the first so far
abbrev pub invariant-loop-effect : goal.invariant-loop-effect
invariant-loop-effect l = l.first ≡ spec.first_open (λ s. finite.get l.settles s) l.mark (reverse (take l.effect-index l.log))
