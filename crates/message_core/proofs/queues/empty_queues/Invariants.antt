use Rattle.message_core.proofs.Names.{◌≡◌, [], take, Some, None, if◌then◌else◌, list_any, NodeId, same_node, queue_in}
use Rattle.message_core.proofs.queues.empty_queues.Given as goal

abbrev pub invariant-loop-node : goal.invariant-loop-node
invariant-loop-node l = (n : NodeId) → queue_in l.queues.entries n ≡ (if list_any (λ m. same_node m n) (take l.node-index l.nodes) then Some [] else None)
