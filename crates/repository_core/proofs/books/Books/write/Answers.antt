use Rattle.repository_core.proofs.Names.{List, subst, sym, Mark, wrote, BooksShow}
use Rattle.repository_core.proofs.BookLemmas.{since_write, agree-write}
use Rattle.repository_core.proofs.books.Books.write.Goals as goal

pub returns-clause-agree : goal.returns-clause-agree
returns-clause-agree g c = λ pending log a.
    let b = c.args.self.now in
    subst (λ (m : List Mark). BooksShow pending (wrote log c.args.object c.args.at c.args.value.now c.in_ok-step.step) m b.records b.early.entries) (sym c.in_ok-step.ensures.grown)
    (agree-write pending log (g.H.Histories.content b.histories) b.records b.early.entries c.args.object c.args.at c.args.value.now c.in_ok-step.step a)

pub returns-clause-since : goal.returns-clause-since
returns-clause-since g c =
    let e = c.in_ok-step.ensures in let b = c.args.self.now in
    since_write g.H.Histories.content g.H.Histories.below g.H.Histories.faults g.H.Histories.damage b.first.value b.histories c.write.new.self c.args.object c.args.at c.args.value.now c.in_ok-step.step c.requires.since e.grown e.below e.cause.faults_stay e.cause.damage_stays
