use Rattle.trace_logs.proofs.Names.{take, IsAbsent}
use Rattle.trace_logs.proofs.replays.place_of.Given as goal

-- none of those so far
abbrev pub invariant-loop-place : goal.invariant-loop-place
invariant-loop-place l = IsAbsent l.node (take l.place l.replayed)
