use Rattle.std.proofs.Common.{reverse, take}
use Rattle.log_replay.specs.Commits.{AreSaid}
use Rattle.log_replay.proofs.commits.said_in.Given as goal

-- the effects so far
abbrev pub invariant-loop-effect : goal.invariant-loop-effect
invariant-loop-effect l = AreSaid (reverse (take l.effect-index l.log)) l.said
