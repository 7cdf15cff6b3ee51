use Rattle.node_turn.proofs.NodeLemmas.{turned-down, turned-wanting, turned-working}
use Rattle.node_turn.proofs.nodes.Node.turn.Goals as goal

pub returns-in-Down-clause-turns : goal.returns-in-Down-clause-turns
returns-in-Down-clause-turns g c =
    let i = c.self.inside in
    turned-down g.M.Medium g.K.Meanings g.met.M.Medium.only_now i.hand.core i.node i.hand.gone i.hand.durable i.pass i.hand.condition c.in-Down.cause c.in-Down.is c.self.invariant c.self.view_is

pub returns-in-Wanting-clause-turns : goal.returns-in-Wanting-clause-turns
returns-in-Wanting-clause-turns g c =
    let i = c.self.inside in
    turned-wanting g.M.Medium g.K.Meanings i.hand.core i.node i.pass i.hand.condition _ c.in-Wanting.is c.self.view_is

pub returns-in-AtWork-clause-turns : goal.returns-in-AtWork-clause-turns
returns-in-AtWork-clause-turns g c =
    let i = c.self.inside in
    let w = c.work-pass in
    turned-working g.M.Medium g.K.Meanings i.hand.core w.result.1.core i.node w.result.1.gone w.result.1.durable i.pass w.result.0 i.hand.condition w.result.1.condition w.result.2 c.answer-turned.result
    w.ensures.keeps c.answer-turned.ensures.condition c.answer-turned.ensures.quiet w.ensures.quiet w.ensures.adds w.ensures.paid w.ensures.whole w.ensures.tested w.ensures.passes c.self.view_is
