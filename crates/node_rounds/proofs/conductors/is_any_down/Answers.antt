use Rattle.node_rounds.proofs.Names.{sym, subst, ◌∙◌, IsUp, HasMemory}
use Rattle.node_rounds.proofs.PairLemmas.{within-more, within-all}
use Rattle.node_rounds.proofs.RoundLemmas.{up-else}
use Rattle.node_rounds.proofs.conductors.is_any_down.Goals as goal

pub returns-in-Down : goal.returns-in-Down
returns-in-Down g c = (c.loop-node.node-index, c.node-item.result, c.loop-node-test.true, sym c.node-item.is, (c.in-Down.cause, sym c.condition.ensures ∙ c.in-Down.is))

pub loop-node-preserved : goal.loop-node-preserved
loop-node-preserved g c =
    let node = c.node-item.result in
    within-more IsUp c.args.nodes.now c.loop-node.node-index node c.loop-node-test.true c.node-item.is c.loop-node.invariant
    (up-else node.condition (subst HasMemory (sym c.node-item.is) (c.requires.memory c.loop-node.node-index node c.loop-node-test.true)) (λ cause e. c.in_default.not-Down cause (c.condition.ensures ∙ e)))

pub returns : goal.returns
returns g c = within-all IsUp c.args.nodes.now c.loop-node.node-index c.loop-node-test.false c.loop-node.invariant
