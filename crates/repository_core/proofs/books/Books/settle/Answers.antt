use Rattle.repository_draft.specs.Mark.TheVariants.{Settle}
use Rattle.repository_core.proofs.BookLemmas.{since_settle}
use Rattle.repository_core.proofs.books.Books.settle.Goals as goal

pub returns-clause-since : goal.returns-clause-since
returns-clause-since g c =
    let e = c.in_ok-settle.ensures in let b = c.args.self.now in
    since_settle g.H.Histories.content g.H.Histories.below g.H.Histories.faults g.H.Histories.damage b.first.value b.histories c.settle.new.self (Settle c.args.stamp c.args.committed) c.requires.since e.grown e.below e.cause.faults_stay e.cause.damage_stays
