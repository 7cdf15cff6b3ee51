use Rattle.pseudo_time.specs.Lists.{Every}
use Rattle.trace_logs.specs.Replays.{IsMoment}
use Rattle.node_tests.proofs.traces.entries_of.Given as goal

-- those so far
abbrev pub invariant-loop-step : goal.invariant-loop-step
invariant-loop-step l = Every IsMoment l.entries.items
