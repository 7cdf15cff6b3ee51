use Rattle.std.proofs.Common.{◌∙◌, arith}
use Rattle.message_core.proofs.QueueLemmas.{puts_step}
use Rattle.message_core.proofs.queues.put_copies.Goals as goal

pub loop-preserved : goal.loop-preserved
loop-preserved c = record {
  items = puts_step c.loop.counter c.args.copies c.args.number c.args.overtake c.loop.queue.items c.put_copy.new.queue.items c.loop-test.true c.put_copy.ensures.items ∙ c.loop.invariant.items;
  room = omega (arith, c.loop.invariant.room, c.put_copy.ensures.len, c.put_copy.ensures.room, c.loop-test.true);
}
