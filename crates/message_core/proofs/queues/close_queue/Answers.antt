use Rattle.std.specs.Prelude.{None}
use Rattle.message_core.proofs.QueueLemmas.{puts_of, queue_closed}
use Rattle.message_core.proofs.queues.close_queue.Goals as goal

pub returns : goal.returns
returns c = queue_closed c.args.queues.now.entries c.remove.new.self.entries c.args.node (puts_of c.args.node None c.args.queues.now.entries c.remove.new.self.entries c.remove.ensures.updates.0)
