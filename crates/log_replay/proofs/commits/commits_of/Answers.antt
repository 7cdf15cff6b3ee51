use Rattle.log_replay.proofs.CommitLemmas.{commits-step}
use Rattle.log_replay.proofs.commits.commits_of.Goals as goal

pub loop-log-preserved : goal.loop-log-preserved
loop-log-preserved c =
    commits-step c.args.logs.now c.loop-log.log-index c.log-item.result c.as_slice.result.now c.loop-log.all.items c.push.new.self.items c.in_ok-said.said c.loop-log-test.true c.log-item.is c.as_slice.ensures.value c.in_ok-said.ensures
    c.in_ok-push.ensures.items c.loop-log.invariant
