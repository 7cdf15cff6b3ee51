use Rattle.node_rounds.proofs.Names.{sym, subst, All, Any, IsTrue, MatchBool, IsUp, IsDone, IsLate}
use Rattle.node_rounds.proofs.PairLemmas.{within-more}
use Rattle.node_rounds.proofs.conductors.are_all_done.Goals as goal

pub are_done-requires : goal.are_done-requires
are_done-requires g c = record {
  up = subst (All IsUp) (sym c.as_slice.ensures.value) (subst (λ nodes. All IsUp nodes.items) (sym c.nodes-item.is) (c.requires.up c.loop-nodes.nodes-index c.nodes-item.result c.loop-nodes-test.true));
}

pub loop-nodes-preserved : goal.loop-nodes-preserved
loop-nodes-preserved g c =
    within-more (λ nodes. IsTrue g.M.Medium.tells → All IsDone nodes.items) c.args.shares.now c.loop-nodes.nodes-index c.nodes-item.result c.loop-nodes-test.true c.nodes-item.is c.loop-nodes.invariant
    (λ told. subst (All IsDone) c.as_slice.ensures.value (subst (λ b. MatchBool b (IsTrue g.M.Medium.tells → All IsDone c.as_slice.result.now) (Any (IsLate g.M.Medium.tells) c.as_slice.result.now)) c.if-not-are_done.false c.are_done.ensures told))

pub returns-then-not-are_done : goal.returns-then-not-are_done
returns-then-not-are_done g c =
    let found = subst (λ b. MatchBool b (IsTrue g.M.Medium.tells → All IsDone c.as_slice.result.now) (Any (IsLate g.M.Medium.tells) c.as_slice.result.now)) c.if-not-are_done.true c.are_done.ensures in
    (c.loop-nodes.nodes-index, c.nodes-item.result, c.loop-nodes-test.true, sym c.nodes-item.is, subst (Any (IsLate g.M.Medium.tells)) c.as_slice.ensures.value found)
