use Rattle.trace_logs.specs.Replays.{IsMoment}
use Rattle.trace_logs.proofs.EndLemmas.{every-more}
use Rattle.node_tests.proofs.traces.entries_of.Goals as goal

pub loop-step-preserved : goal.loop-step-preserved
loop-step-preserved c = every-more IsMoment c.in_ok-entry.entry c.loop-step.entries.items c.push.new.self.items c.loop-step.invariant c.in_ok-entry.ensures c.in_ok-push.ensures.items
