use Rattle.trace_logs.proofs.Names.{◌≡◌, false, take, knows}
use Rattle.trace_logs.proofs.cores.settles.Given as goal

-- none so far
abbrev pub invariant-loop-effect : goal.invariant-loop-effect
invariant-loop-effect l = knows (take l.effect-index l.log) l.stamp ≡ false
