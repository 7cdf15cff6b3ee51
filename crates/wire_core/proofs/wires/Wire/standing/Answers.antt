use Rattle.wire_core.proofs.Names.{is_behind, Standing, WireParts, world_of, ◌≡◌, true, ap, subst, ◌∙◌}
use Rattle.wire_core.proofs.FitLemmas.{up-is, gone-is, due-is, behind-is}
use Rattle.wire_core.proofs.wires.Wire.standing.Goals as goal

pub returns-clause-up : goal.returns-clause-up
returns-clause-up g c = subst (λ (v : WireParts). c.standing.result.up ≡ ((world_of v).flags c.args.node).up) c.self.view_is (ap (λ (x : Standing). x.up) c.standing.ensures ∙ up-is _ _ _ _ c.self.invariant.fits c.args.node)

pub returns-clause-gone : goal.returns-clause-gone
returns-clause-gone g c = subst (λ (v : WireParts). c.standing.result.gone ≡ ((world_of v).flags c.args.node).gone) c.self.view_is (ap (λ (x : Standing). x.gone) c.standing.ensures ∙ gone-is _ _ _ _ c.self.invariant.fits c.args.node)

pub returns-clause-due : goal.returns-clause-due
returns-clause-due g c = subst (λ (v : WireParts). c.standing.result.due ≡ ((world_of v).flags c.args.node).due) c.self.view_is (ap (λ (x : Standing). x.due) c.standing.ensures ∙ due-is _ _ _ _ c.self.invariant.fits c.args.node)

pub returns-clause-behind : goal.returns-clause-behind
returns-clause-behind g c = subst (λ (v : WireParts). ((world_of v).flags c.args.node).up ≡ true → c.standing.result.behind ≡ is_behind (world_of v) c.args.node) c.self.view_is (λ up. ap (λ (x : Standing). x.behind) c.standing.ensures ∙ behind-is _ _ _ _ c.self.invariant.fits c.args.node up)
