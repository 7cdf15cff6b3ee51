use Rattle.node_rounds.proofs.Names.{AllWithin, HasMemory}
use Rattle.node_rounds.proofs.conductors.is_any_wanting.Given as goal

abbrev pub invariant-loop-node : goal.invariant-loop-node
invariant-loop-node g l = AllWithin HasMemory l.nodes 0 l.node-index
