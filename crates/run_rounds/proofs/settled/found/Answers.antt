use Rattle.run_rounds.proofs.Names.{◌≡◌, ◌∙◌, IsUp, None, subst, sym}
use Rattle.run_starts.specs.Doubts.{decision_of}
use Rattle.run_starts.proofs.PairLemmas.{within-all, within-more}
use Rattle.run_rounds.proofs.settled.found.Goals as goal

pub decided-requires : goal.decided-requires
decided-requires g c = record { up = subst IsUp (sym c.node-item.is) (c.requires.up c.loop-node.node-index c.node-item.result c.loop-node-test.true) }

pub returns-in-Some : goal.returns-in-Some
returns-in-Some g c = λ told. (c.loop-node.node-index, c.node-item.result, c.loop-node-test.true, sym c.node-item.is, sym (c.in_ok-committed.ensures told) ∙ c.in-Some.is)

pub loop-node-preserved : goal.loop-node-preserved
loop-node-preserved g c = λ told.
    within-more (λ h. decision_of h c.args.stamp ≡ None) c.args.nodes.now c.loop-node.node-index c.node-item.result c.loop-node-test.true c.node-item.is (c.loop-node.invariant told)
    (sym (c.in_ok-committed.ensures told) ∙ c.in_default.is)

pub returns : goal.returns
returns g c = λ told. within-all (λ h. decision_of h c.args.stamp ≡ None) c.args.nodes.now c.loop-node.node-index c.loop-node-test.false (c.loop-node.invariant told)
