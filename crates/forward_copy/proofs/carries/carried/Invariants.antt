use Rattle.forward_copy.proofs.Names.{◌≡◌, ◌∷◌, take, Mark}
use Rattle.forward_copy.proofs.carries.carried.Given as goal

-- the mark, and what is kept so far
abbrev pub invariant-loop-effect : goal.invariant-loop-effect
invariant-loop-effect l = l.all.items ≡ Mark l.fn.mark ∷ take l.effect-index l.kept
