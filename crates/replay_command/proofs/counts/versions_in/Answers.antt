use Rattle.replay_command.proofs.CountLemmas.{puts-none, versions-next}
use Rattle.replay_command.proofs.counts.versions_in.Goals as goal

pub loop-log-init : goal.loop-log-init
loop-log-init c = puts-none

pub loop-log-preserved : goal.loop-log-preserved
loop-log-preserved c =
    versions-next c.args.logs.now c.loop-log.log-index c.log-item.result c.as_slice.result.now c.loop-log.count c.puts_in.result c.saturating_add-count.result c.loop-log-test.true c.log-item.is c.as_slice.ensures.value c.puts_in.ensures
    c.loop-log.invariant c.saturating_add-count.ensures
