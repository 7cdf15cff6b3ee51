use Rattle.run_starts.proofs.Names.{ap, sym, subst, ◌∙◌, Some, NodeParts, IsAtRest}
use Rattle.node_rounds.specs.Kinds.{parts_of}
use Rattle.run_starts.proofs.StartLemmas.{all-pushed}
use Rattle.run_starts.proofs.SeatLemmas.{map-pushed}
use Rattle.run_starts.proofs.seats.+take_apart.Goals as goal
use Rattle.run_starts.proofs.seats.+take_apart.Goals.{in-Repository, in-Broker}

pub returns-clause-rest : goal.returns-clause-rest
returns-clause-rest g t c =
    elim c.match-kind.branch [
      | in-Repository w ↦ (
          let is = ap parts_of (sym w.in-Repository.is) ∙ c.node.view_is in
          let rest = subst (λ (n : NodeParts g.row.M.Denot). IsAtRest g.M.Medium n) is w.release.ensures.rest in
          all-pushed (λ (n : NodeParts g.row.M.Denot). IsAtRest g.M.Medium n) c.args.nodes.items c.pop.new.self.items c.in-Some.node c.in-Some.ensures.items c.take_apart-media.ensures.rest rest)
      | in-Broker w ↦ (
          let is = ap parts_of (sym w.in-Broker.is) ∙ c.node.view_is in
          let rest = subst (λ (n : NodeParts g.row.M.Denot). IsAtRest g.M.Medium n) is w.release-in-Broker.ensures.rest in
          all-pushed (λ (n : NodeParts g.row.M.Denot). IsAtRest g.M.Medium n) c.args.nodes.items c.pop.new.self.items c.in-Some.node c.in-Some.ensures.items c.take_apart-media.ensures.rest rest)
    ]

pub returns-clause-media : goal.returns-clause-media
returns-clause-media g t c =
    let pushed = map-pushed (λ (n : NodeParts g.row.M.Denot). Some n.medium) c.push_reserved.new.self.items c.take_apart-media.result.0.items c.args.nodes.items c.pop.new.self.items c.in-Some.node (Some c.match-kind.medium.0)
    c.push_reserved.ensures.items c.take_apart-media.ensures.media c.in-Some.ensures.items in
    elim c.match-kind.branch [
      | in-Repository w ↦ (
          let is = ap parts_of (sym w.in-Repository.is) ∙ c.node.view_is in
          pushed (ap (λ p. Some p.0) w.medium-is ∙ (ap Some w.release.ensures.parts.0 ∙ ap (λ (n : NodeParts g.row.M.Denot). Some n.medium) is)))
      | in-Broker w ↦ (
          let is = ap parts_of (sym w.in-Broker.is) ∙ c.node.view_is in
          pushed (ap (λ p. Some p.0) w.medium-is ∙ (ap Some w.release-in-Broker.ensures.parts.0 ∙ ap (λ (n : NodeParts g.row.M.Denot). Some n.medium) is)))
    ]

pub returns-clause-passes : goal.returns-clause-passes
returns-clause-passes g t c =
    let pushed = map-pushed (λ (n : NodeParts g.row.M.Denot). n.pass) c.push_reserved-2.new.self.items c.take_apart-media.result.1.items c.args.nodes.items c.pop.new.self.items c.in-Some.node c.match-kind.medium.1
    c.push_reserved-2.ensures.items c.take_apart-media.ensures.passes c.in-Some.ensures.items in
    elim c.match-kind.branch [
      | in-Repository w ↦ (
          let is = ap parts_of (sym w.in-Repository.is) ∙ c.node.view_is in
          pushed (ap (λ p. p.1) w.medium-is ∙ (w.release.ensures.parts.1 ∙ ap (λ (n : NodeParts g.row.M.Denot). n.pass) is)))
      | in-Broker w ↦ (
          let is = ap parts_of (sym w.in-Broker.is) ∙ c.node.view_is in
          pushed (ap (λ p. p.1) w.medium-is ∙ (w.release-in-Broker.ensures.parts.1 ∙ ap (λ (n : NodeParts g.row.M.Denot). n.pass) is)))
    ]
