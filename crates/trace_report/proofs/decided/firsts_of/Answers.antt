use Rattle.trace_report.proofs.DecidedLemmas.{firsts-step}
use Rattle.trace_report.proofs.decided.firsts_of.Goals as goal

pub loop-below-preserved : goal.loop-below-preserved
loop-below-preserved c =
    firsts-step c.args.logs.now c.loop-below.firsts.items c.push.new.self.items c.in_ok-first.first c.loop-below.below c.log_of-log.result.now c.repository.result c.loop-below.invariant.0 c.loop-below.invariant.1
    c.repository.ensures c.log_of-log.ensures c.in_ok-first.ensures c.in_ok-push.ensures.items
