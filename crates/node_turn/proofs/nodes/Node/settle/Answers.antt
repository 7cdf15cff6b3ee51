use Rattle.node_turn.proofs.Names.{NodeParts, knows, world_at, is_broker, ◌∙◌, refl, ap, sym, subst}
use Rattle.node_turn.specs.Nodes.{sight}
use Rattle.node_turn.specs.Settles.{SettlesTo, Stand}
use Rattle.node_turn.proofs.NodeLemmas.{keeps-up}
use Rattle.node_turn.proofs.nodes.Node.settle.Goals as goal

pub settle-pass-requires-clause-up : goal.settle-pass-requires-clause-up
settle-pass-requires-clause-up g c =
    let i = c.self.inside in
    keeps-up g.M.Medium g.K.Meanings i.hand.core (knows i.pass) i.node i.hand.gone i.hand.durable i.hand.condition (ap (λ (p : NodeParts g.row.M.Denot). p.condition) c.self.view_is ∙ c.requires.up) c.self.invariant

pub settle-pass-requires-clause-repository : goal.settle-pass-requires-clause-repository
settle-pass-requires-clause-repository g c = ap (λ (p : NodeParts g.row.M.Denot). is_broker p.node.kind) c.self.view_is ∙ c.requires.repository

pub settle-pass-requires-clause-stand : goal.settle-pass-requires-clause-stand
settle-pass-requires-clause-stand g c = λ t. subst (λ (p : NodeParts g.row.M.Denot). Stand (world_at (sight p)) c.args.decisions.now) (sym c.self.view_is) (c.requires.stand t)

pub returns-clause-settles : goal.returns-clause-settles
returns-clause-settles g c =
    let i = c.self.inside in
    let e = c.settle-pass.ensures in
    let new : NodeParts g.row.M.Denot = record { node = i.node; condition = c.settle-pass.result.1.condition; pass = c.settle-pass.result.0; medium = (g.K.Meanings.parts c.settle-pass.result.1.core).medium } in
    subst (λ (p : NodeParts g.row.M.Denot). SettlesTo g.M.Medium c.args.decisions.now p new) c.self.view_is
    (record { node = refl; adds = e.adds; paid = e.paid; whole = e.whole; passes = e.passes; grown = e.grown; known = e.known })
