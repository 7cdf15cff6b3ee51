use Rattle.repository_core.proofs.Names.{List, subst, sym, Mark, read_by, BooksShow}
use Rattle.repository_core.proofs.BookLemmas.{since_read, agree-read}
use Rattle.repository_core.proofs.books.Books.read.Goals as goal

pub returns-clause-agree : goal.returns-clause-agree
returns-clause-agree g c = λ pending log a.
    let b = c.args.self.now in
    subst (λ (m : List Mark). BooksShow pending (read_by log c.args.object c.args.at c.in_ok-step.step) m b.records b.early.entries) (sym c.in_ok-step.ensures.grown)
    (agree-read pending log (g.H.Histories.content b.histories) b.records b.early.entries c.args.object c.args.at c.in_ok-step.step a)

pub returns-clause-since : goal.returns-clause-since
returns-clause-since g c =
    let e = c.in_ok-step.ensures in let b = c.args.self.now in
    since_read g.H.Histories.content g.H.Histories.below g.H.Histories.faults g.H.Histories.damage b.first.value b.histories c.read.new.self c.args.object c.args.at c.in_ok-step.step c.requires.since e.grown e.below e.cause.faults_stay e.cause.damage_stays
