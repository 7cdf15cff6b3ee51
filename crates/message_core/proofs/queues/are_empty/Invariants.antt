use Rattle.message_core.proofs.EmptyLemmas.{AreLeft}
use Rattle.message_core.proofs.queues.are_empty.Given as goal

abbrev pub invariant-loop-node : goal.invariant-loop-node
invariant-loop-node l = AreLeft l.queues.entries l.node-iterator
