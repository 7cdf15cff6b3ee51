use Rattle.node_rounds.proofs.Names.{AllWithin, All, IsUp}
use Rattle.node_rounds.proofs.conductors.has_down.Given as goal

abbrev pub invariant-loop-nodes : goal.invariant-loop-nodes
invariant-loop-nodes g l = AllWithin (λ nodes. All IsUp nodes.items) l.shares 0 l.nodes-index
