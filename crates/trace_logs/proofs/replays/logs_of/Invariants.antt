use Rattle.trace_logs.proofs.Names.{◌≡◌, gated_logs}
use Rattle.trace_logs.proofs.replays.logs_of.Given as goal

-- those so far
abbrev pub invariant-loop-node : goal.invariant-loop-node
invariant-loop-node l = l.opened.items ≡ gated_logs l.yielded
