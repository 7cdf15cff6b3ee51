use Rattle.node_rounds.proofs.Names.{AllWithin, IsTrue, IsDone}
use Rattle.node_rounds.proofs.conductors.are_done.Given as goal

abbrev pub invariant-loop-node : goal.invariant-loop-node
invariant-loop-node g l = AllWithin (λ n. IsTrue g.M.Medium.tells → IsDone n) l.nodes 0 l.node-index
