use Rattle.node_inputs.specs.Words.{knows}
use Rattle.node_turn.proofs.NodeLemmas.{keeps-looked}
use Rattle.node_turn.proofs.nodes.Node.meet.Goals as goal

pub invariant_of-self : goal.invariant_of-self
invariant_of-self g c =
    let i = c.self.inside in
    keeps-looked g.M.Medium g.K.Meanings
    i.hand.core (knows i.pass) (knows c.meet.new.one) i.node i.hand.gone i.hand.durable i.hand.condition c.self.invariant c.meet.ensures.one
