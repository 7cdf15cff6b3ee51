use Rattle.node_rounds.proofs.Names.{AllWithin, All, HasMemory}
use Rattle.node_rounds.proofs.conductors.was_wanting.Given as goal

abbrev pub invariant-loop-nodes : goal.invariant-loop-nodes
invariant-loop-nodes g l = AllWithin (λ nodes. All HasMemory nodes.items) l.shares 0 l.nodes-index
