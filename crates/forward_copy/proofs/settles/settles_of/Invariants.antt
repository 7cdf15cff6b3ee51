use Rattle.forward_copy.proofs.Names.{reverse, take, AreKnown}
use Rattle.forward_copy.proofs.settles.settles_of.Given as goal

-- the log so far
abbrev pub invariant-loop-effect : goal.invariant-loop-effect
invariant-loop-effect l = AreKnown (reverse (take l.effect-index l.log)) l.settles
