use Rattle.node_rounds.proofs.Names.{AllWithin, All, IsTrue, IsDone}
use Rattle.node_rounds.proofs.conductors.are_all_done.Given as goal

abbrev pub invariant-loop-nodes : goal.invariant-loop-nodes
invariant-loop-nodes g l = AllWithin (λ nodes. IsTrue g.M.Medium.tells → All IsDone nodes.items) l.shares 0 l.nodes-index
