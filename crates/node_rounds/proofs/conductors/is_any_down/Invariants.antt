use Rattle.node_rounds.proofs.Names.{AllWithin, IsUp}
use Rattle.node_rounds.proofs.conductors.is_any_down.Given as goal

abbrev pub invariant-loop-node : goal.invariant-loop-node
invariant-loop-node g l = AllWithin IsUp l.nodes 0 l.node-index
