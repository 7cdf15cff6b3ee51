use Rattle.std.proofs.Common.{subst, sym}
use Rattle.trace_logs.specs.Replays.{IsOnce}
use Rattle.node_tests.proofs.traces.logs_after.Goals as goal

pub logs-requires-clause-once : goal.logs-requires-clause-once
logs-requires-clause-once c = subst IsOnce (sym c.of.ensures) c.in_ok-opened.ensures.once
