use Rattle.node_rounds.proofs.Names.{sym, subst, All, Any, MatchBool, IsUp, HasMemory, IsDown}
use Rattle.node_rounds.proofs.PairLemmas.{within-more}
use Rattle.node_rounds.proofs.conductors.has_down.Goals as goal

pub is_any_down-requires : goal.is_any_down-requires
is_any_down-requires g c = record {
  memory = subst (All HasMemory) (sym c.as_slice.ensures.value) (subst (λ nodes. All HasMemory nodes.items) (sym c.nodes-item.is) (c.requires.memory c.loop-nodes.nodes-index c.nodes-item.result c.loop-nodes-test.true));
}

pub returns-then-is_any_down : goal.returns-then-is_any_down
returns-then-is_any_down g c =
    let found = subst (λ b. MatchBool b (Any IsDown c.as_slice.result.now) (All IsUp c.as_slice.result.now)) c.if-is_any_down.true c.is_any_down.ensures in
    (c.loop-nodes.nodes-index, c.nodes-item.result, c.loop-nodes-test.true, sym c.nodes-item.is, subst (Any IsDown) c.as_slice.ensures.value found)

pub loop-nodes-preserved : goal.loop-nodes-preserved
loop-nodes-preserved g c =
    let none = subst (λ b. MatchBool b (Any IsDown c.as_slice.result.now) (All IsUp c.as_slice.result.now)) c.if-is_any_down.false c.is_any_down.ensures in
    within-more (λ nodes. All IsUp nodes.items) c.args.shares.now c.loop-nodes.nodes-index c.nodes-item.result c.loop-nodes-test.true c.nodes-item.is c.loop-nodes.invariant (subst (All IsUp) c.as_slice.ensures.value none)
