use Rattle.message_core.proofs.Names.{rules, ◌+◌, ◌-◌, length, take, queue_in}
use Rattle.message_core.proofs.QueueLemmas.{gathered, gathered_all}
use Rattle.message_core.proofs.queues.gather.Goals as goal

pub loop-back-preserved : goal.loop-back-preserved
loop-back-preserved c = λ before grew.
    c.take_back.ensures before (take (length c.args.copies.now - (c.loop-back.back + 1)) c.args.copies.now) (gathered c.args.copies.now c.loop-back.back _ before (queue_in c.loop-back.queues.entries) (search rules) (c.loop-back.invariant before grew))

pub returns : goal.returns
returns c = λ before grew. gathered_all c.args.copies.now c.loop-back.back before (queue_in c.loop-back.queues.entries) (search rules) (c.loop-back.invariant before grew)
