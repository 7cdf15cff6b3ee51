use Rattle.std.proofs.Common.{[]}
use Rattle.log_replay.specs.Folders.{items_of}
use Rattle.log_replay.specs.Puts.{puts_at, puts_by}
use Rattle.log_replay.proofs.PutLemmas.{all-end, all-step}
use Rattle.log_replay.proofs.puts.puts_of_all.Goals as goal

pub loop-log-preserved : goal.loop-log-preserved
loop-log-preserved c = λ s.
    all-step s c.args.logs.now c.loop-log.log-index c.log-item.result c.as_slice.result.now (puts_at c.loop-log.puts s) (puts_at c.add_log.new.puts s) (puts_by s (items_of c.args.logs.now) []) c.loop-log-test.true c.log-item.is c.as_slice.ensures.value
    (c.in_ok-add_log.ensures s) (c.loop-log.invariant s)

pub returns : goal.returns
returns c = λ s. all-end s c.args.logs.now c.loop-log.log-index (puts_at c.loop-log.puts s) (puts_by s (items_of c.args.logs.now) []) c.loop-log-test.false (c.loop-log.invariant s)
