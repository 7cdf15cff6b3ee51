use Rattle.run_rounds.proofs.Names.{sym, subst, knows}
use Rattle.run_rounds.specs.Closings.{CourseEnds}
use Rattle.run_rounds.proofs.courses.gone_for.Goals as goal

pub returns-in-Acts-clause-ends : goal.returns-in-Acts-clause-ends
returns-in-Acts-clause-ends g c =
    let last = c.acted.result in
    subst (λ x. CourseEnds g.M.Medium.tells x last.reason last.nodes.items (knows last.conductor)) (sym c.in-Acts.is) c.acted.ensures.ends

pub returns-in-Settling-clause-ends : goal.returns-in-Settling-clause-ends
returns-in-Settling-clause-ends g c =
    let last = c.settling.result in
    subst (λ x. CourseEnds g.M.Medium.tells x last.reason last.nodes.items (knows last.conductor)) (sym c.in-Settling.is) c.settling.ensures.ends
