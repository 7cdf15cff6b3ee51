use Rattle.message_core.proofs.Names.{ℕ, ◌-◌, List, length, take, Option, NodeId, queue_in, Grew}
use Rattle.message_core.proofs.queues.gather.Given as goal

abbrev pub invariant-loop-back : goal.invariant-loop-back
invariant-loop-back l = (before : NodeId → Option (List ℕ)) → Grew l.copies before (queue_in l.initial.queues.entries) → Grew (take (length l.copies - l.back) l.copies) before (queue_in l.queues.entries)
