use Rattle.node_rounds.proofs.Names.{◌≡◌, sym, subst, All, Any, MatchBool, HasMemory}
use Rattle.broker_node.specs.Condition.TheVariants as condition
use Rattle.node_rounds.proofs.PairLemmas.{within-more}
use Rattle.node_rounds.proofs.conductors.was_wanting.Goals as goal

pub returns-then-is_any_wanting : goal.returns-then-is_any_wanting
returns-then-is_any_wanting g c =
    let found = subst (λ b. MatchBool b (Any (λ n. n.condition ≡ condition.Wanting) c.as_slice.result.now) (All HasMemory c.as_slice.result.now)) c.if-is_any_wanting.true c.is_any_wanting.ensures in
    (c.loop-nodes.nodes-index, c.nodes-item.result, c.loop-nodes-test.true, sym c.nodes-item.is, subst (Any (λ n. n.condition ≡ condition.Wanting)) c.as_slice.ensures.value found)

pub loop-nodes-preserved : goal.loop-nodes-preserved
loop-nodes-preserved g c =
    let none = subst (λ b. MatchBool b (Any (λ n. n.condition ≡ condition.Wanting) c.as_slice.result.now) (All HasMemory c.as_slice.result.now)) c.if-is_any_wanting.false c.is_any_wanting.ensures in
    within-more (λ nodes. All HasMemory nodes.items) c.args.shares.now c.loop-nodes.nodes-index c.nodes-item.result c.loop-nodes-test.true c.nodes-item.is c.loop-nodes.invariant (subst (All HasMemory) c.as_slice.ensures.value none)
