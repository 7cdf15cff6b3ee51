use Rattle.std.proofs.Common.{sym, ◌∙◌}
use Rattle.run_media.proofs.OpeningLemmas.{goes-on, stops-here}
use Rattle.run_media.proofs.refusals.first_refusal.Goals as goal

pub loop-place-preserved : goal.loop-place-preserved
loop-place-preserved g c =
    goes-on c.args.plan.now c.args.openings.now c.loop-place.place c.index-openings-place.result c.node_at-node.result c.refusal_of-found.result c.loop-place-test.true c.index-openings-place.is c.node_at-node.ensures.place
    c.refusal_of-found.ensures c.loop-place.invariant (sym c.is_some.ensures ∙ c.if-is_some.false)

pub returns-then-is_some : goal.returns-then-is_some
returns-then-is_some g c =
    stops-here c.args.plan.now c.args.openings.now c.loop-place.place c.index-openings-place.result c.node_at-node.result c.refusal_of-found.result c.loop-place-test.true c.index-openings-place.is c.node_at-node.ensures.place
    c.refusal_of-found.ensures c.loop-place.invariant (sym c.is_some.ensures ∙ c.if-is_some.true)
