use Rattle.script_form.proofs.Names.{Ok, subst, Fed, row_of, on}
use Rattle.script_form.proofs.BeginLemmas.{fed_ok, fed_handed}
use Rattle.script_form.proofs.builders.Builder.feed.Goals as goal

pub returns-in_err-building : goal.returns-in_err-building
returns-in_err-building c =
    subst (λ z. Fed z (on c.args.line (row_of c.args.flat)) c.from_residual.result) c.self.view_is
    (fed_handed c.self.inside.building c.args.line c.args.flat c.from_residual.result c.in_err-building.field-0.0 c.from_residual.ensures c.in_err-building.ensures)

pub invariant_of-result : goal.invariant_of-result
invariant_of-result c = (fed_ok c.self.inside.building c.in_ok-building.building c.args.line c.args.flat c.self.invariant c.in_ok-building.ensures).0

pub returns : goal.returns
returns c =
    subst (λ z. Fed z (on c.args.line (row_of c.args.flat)) (Ok c.in_ok-building.building)) c.self.view_is
    (fed_ok c.self.inside.building c.in_ok-building.building c.args.line c.args.flat c.self.invariant c.in_ok-building.ensures).1
