use Rattle.wire_core.proofs.Names.{NodeId, same_node, flags_at, new_flags, ◌≡◌, take, Some, None, if◌then◌else◌, list_any}
use Rattle.wire_core.proofs.stories.nodes_with.Given as goal

abbrev pub invariant-loop-name : goal.invariant-loop-name
invariant-loop-name l = (n : NodeId) → flags_at l.nodes.entries n ≡ (if list_any (λ m. same_node m n) (take l.name-index l.names) then Some new_flags else None)
