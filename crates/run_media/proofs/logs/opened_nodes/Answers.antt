use Rattle.run_media.proofs.Names.{ap, sym, subst, ◌∙◌, take_all, JustNodes, opened_from}
use Rattle.run_media.proofs.OrderLemmas.{just-nodes, next-opened}
use Rattle.run_media.proofs.logs.opened_nodes.Goals as goal

pub loop-place-preserved : goal.loop-place-preserved
loop-place-preserved g c =
    next-opened c.args.plan.now c.args.openings.now c.loop-place.place c.index-openings-place.result c.node_at-node.result c.of.result c.loop-place.opened.items c.push.new.self.items c.loop-place-test.true c.index-openings-place.is
    c.node_at-node.ensures.place (c.of.ensures ∙ c.in_ok-log.ensures) c.loop-place.invariant c.in_ok-push.ensures.items

pub returns-clause-nodes : goal.returns-clause-nodes
returns-clause-nodes g c =
    let plan = c.args.plan.now in
    let os = c.args.openings.now in
    let is = c.loop-place.invariant ∙ ap (opened_from plan 0) (take_all c.loop-place.place os c.loop-place-test.false) in
    subst (JustNodes plan) (sym is) (just-nodes plan os c.requires.count)
