use Rattle.message_core.proofs.Names.{refl, Some}
use Rattle.message_core.proofs.QueueLemmas.{puts_of}
use Rattle.message_core.proofs.EmptyLemmas.{one_made}
use Rattle.message_core.proofs.queues.empty_queues.Goals as goal

pub loop-node-preserved : goal.loop-node-preserved
loop-node-preserved c =
    let es = c.loop-node.queues.entries in
    let fs = c.insert.new.self.entries in
    let w = c.new.result in
    one_made c.args.nodes.now c.loop-node.node-index _ _ w es fs c.loop-node-test.true refl c.new.ensures.items (puts_of _ (Some w) es fs c.in_ok-insert.ensures.updates.0) c.loop-node.invariant
