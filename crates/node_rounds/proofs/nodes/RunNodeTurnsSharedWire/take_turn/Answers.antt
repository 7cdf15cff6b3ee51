use Rattle.node_rounds.proofs.Names.{◌∙◌, ap, sym, subst, NodeParts, TurnsTo}
use Rattle.node_rounds.specs.Kinds.{parts_of}
use Rattle.node_rounds.proofs.nodes.RunNodeTurnsSharedWire.take_turn.Goals as goal

pub returns-in-Repository : goal.returns-in-Repository
returns-in-Repository g c =
    let t = c.turn-node in
    let turned = subst (λ (n : NodeParts g.row.M.Denot). TurnsTo g.M.Medium n t.result.0 t.result.1) (ap parts_of (sym c.in-Repository.is) ∙ c.self.view_is) t.ensures.turns in
    record { does = record { pass = t.ensures.pass; answer = t.result.1; turned = turned } }

pub returns-in-Broker : goal.returns-in-Broker
returns-in-Broker g c =
    let t = c.turn-node-in-Broker in
    let turned = subst (λ (n : NodeParts g.row.M.Denot). TurnsTo g.M.Medium n t.result.0 t.result.1) (ap parts_of (sym c.in-Broker.is) ∙ c.self.view_is) t.ensures.turns in
    record { does = record { pass = t.ensures.pass; answer = t.result.1; turned = turned } }
