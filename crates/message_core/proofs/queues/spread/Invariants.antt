use Rattle.message_core.proofs.Names.{take, queue_in, Grew}
use Rattle.message_core.proofs.queues.spread.Given as goal

abbrev pub invariant-loop-index : goal.invariant-loop-index
invariant-loop-index l = Grew (take l.index l.copies) (queue_in l.initial.queues.entries) (queue_in l.queues.entries)
