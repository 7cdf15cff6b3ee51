use Rattle.std.proofs.Common.{subst}
use Rattle.message_core.proofs.EmptyLemmas.{AreLeft, one_tested, empty_so, waits}
use Rattle.message_core.proofs.queues.are_empty.Goals as goal

pub loop-node-preserved : goal.loop-node-preserved
loop-node-preserved c =
    let es = c.args.queues.now.entries in
    one_tested es c.next.new.self c.in-Some.node.now c.in-Some._queue.now (subst (λ left. AreLeft es left) c.in-Some.ensures.steps c.loop-node.invariant)
    (empty_so (waits es c.in-Some.node.now) c.front_of.result c.is_some.result c.front_of.ensures c.is_some.ensures c.if-is_some.false)
