use Rattle.message_core.proofs.Names.{◌∙◌, queue_in}
use Rattle.message_core.proofs.QueueLemmas.{grew_nothing}
use Rattle.message_core.proofs.queues.spread.Goals as goal

pub returns-in-Err-clause-err : goal.returns-in-Err-clause-err
returns-in-Err-clause-err c =
    grew_nothing (queue_in c.args.queues.now.entries) (queue_in c.gather.new.queues.entries) (c.gather.ensures (queue_in c.args.queues.now.entries) (λ n. c.in-Err.ensures.err n ∙ c.loop-index.invariant n))
