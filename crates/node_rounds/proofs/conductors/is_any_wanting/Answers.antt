use Rattle.node_rounds.proofs.Names.{sym, ◌∙◌, HasMemory}
use Rattle.node_rounds.proofs.PairLemmas.{within-more, within-all}
use Rattle.node_rounds.proofs.conductors.is_any_wanting.Goals as goal

pub returns-in-Wanting : goal.returns-in-Wanting
returns-in-Wanting g c = (c.loop-node.node-index, c.node-item.result, c.loop-node-test.true, sym c.node-item.is, sym c.condition.ensures ∙ c.in-Wanting.is)

pub loop-node-preserved : goal.loop-node-preserved
loop-node-preserved g c = within-more HasMemory c.args.nodes.now c.loop-node.node-index c.node-item.result c.loop-node-test.true c.node-item.is c.loop-node.invariant (λ w. c.in_default.not-Wanting (c.condition.ensures ∙ w))

pub returns : goal.returns
returns g c = within-all HasMemory c.args.nodes.now c.loop-node.node-index c.loop-node-test.false c.loop-node.invariant
