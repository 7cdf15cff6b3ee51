use Rattle.broker_node.proofs.Names.{◌≤◌, refl, ap, sym, subst, ◌∙◌, Ok, List, NoMore, Effect, medium_of, Scripted, reopened-none}
use Rattle.broker_core.specs.Parts.{BrokerParts}
use Rattle.medium_port.specs.Moment.{LeavesOnly}
use Rattle.broker_node.proofs.CoreLemmas.{opens-damaged, no-medium}
use Rattle.broker_node.proofs.cores.BrokerCoreStoredCore.reopen.Goals as goal

-- a log that the broker can't go on from
pub returns : goal.returns
returns g c =
    let old = c.args.self in
    let m = c.medium_from.result in
    let acts = c.acts.result.now in
    let is = c.acts.ensures.acts ∙ ap (λ (x : BrokerParts). x.acts) c.as_ref.ensures in
    let log = c.as_slice.result.now in
    reopened-none old _ m (sym c.medium_from.ensures) refl (λ b f. f) c.damage_of.result
    (subst (λ z. g.M.Medium.faults m ≤ g.M.Medium.faults z) (sym c.release.ensures) c.in-Ok.ensures.later)
    (λ t. subst (λ z. NoMore (g.M.Medium.may_leave m) (g.M.Medium.may_leave z)) (sym c.release.ensures) (c.in-Ok.ensures.images t))
    (λ t. subst (λ z. LeavesOnly g.M.Medium.stages m z (g.M.Medium.may_leave m)) (sym c.release.ensures) (c.in-Ok.ensures.any_moment t))
    (λ e. absurd (no-medium c.in-Err-open.fault (sym c.damage_of.ensures ∙ e)))
    (λ t b f page e. let image = g.M.Medium.reads (medium_of c.in-Ok.store) in (
      image,
      c.in-Ok.ensures.was t,
      opens-damaged b old.number old.run acts log image c.in-Err-open.fault page f.0 (is ∙ f.1)
          (c.in-Ok.ensures.found t ∙ ap (λ (l : List Effect). Ok l) (sym c.as_slice.ensures.value))
          (c.in-Err-open.ensures.opens b.script (subst (Scripted b.script) (sym is) f.2)) (sym c.damage_of.ensures ∙ e),
    ))
