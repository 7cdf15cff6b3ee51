use Rattle.node_rounds.proofs.Names.{sym, subst, ◌∙◌, IsTrue, IsUp, IsDone}
use Rattle.node_rounds.proofs.PairLemmas.{within-more, within-all}
use Rattle.node_rounds.proofs.conductors.are_done.Goals as goal

pub loop-node-preserved : goal.loop-node-preserved
loop-node-preserved g c =
    let node = c.node-item.result in
    let up = subst IsUp (sym c.node-item.is) (c.requires.up c.loop-node.node-index node c.loop-node-test.true) in
    within-more (λ n. IsTrue g.M.Medium.tells → IsDone n) c.args.nodes.now c.loop-node.node-index node c.loop-node-test.true c.node-item.is c.loop-node.invariant (λ told. sym (c.is_done.ensures.done told up) ∙ c.if-not-is_done.false)

pub returns-then-not-is_done : goal.returns-then-not-is_done
returns-then-not-is_done g c =
    let node = c.node-item.result in
    let up = subst IsUp (sym c.node-item.is) (c.requires.up c.loop-node.node-index node c.loop-node-test.true) in
    (c.loop-node.node-index, node, c.loop-node-test.true, sym c.node-item.is, (c.is_done.ensures.own up c.if-not-is_done.true, λ told. sym (c.is_done.ensures.done told up) ∙ c.if-not-is_done.true))

pub returns : goal.returns
returns g c = λ told. within-all IsDone c.args.nodes.now c.loop-node.node-index c.loop-node-test.false (λ k d low high. c.loop-node.invariant k d low high told)
