use Rattle.node_turn.proofs.NodeLemmas.{keeps-rest}
use Rattle.node_turn.proofs.nodes.Node.release.Goals as goal

pub returns-clause-rest : goal.returns-clause-rest
returns-clause-rest g c =
    let i = c.self.inside in
    keeps-rest g.M.Medium g.K.Meanings
    i.hand.core i.node i.hand.gone i.hand.durable i.pass i.hand.condition c.self.invariant c.self.view_is
