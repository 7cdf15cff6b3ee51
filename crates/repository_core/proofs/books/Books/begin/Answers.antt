use Rattle.repository_core.proofs.Names.{[], sym, ap, ◌∙◌, began, restored, agree-begin}
use Rattle.commit_record.specs.States.{begun}
use Rattle.repository_core.proofs.BookLemmas.{agree-same}
use Rattle.repository_core.proofs.books.Books.begin.Goals as goal

pub returns-in-New-clause-agree : goal.returns-in-New-clause-agree
returns-in-New-clause-agree g c = λ log a.
    let b = c.args.self.now in let m = g.H.Histories.content b.histories in let s = c.args.stamp in let d = c.args.deadline in let early = c.decided_early-early.result in
    agree-same [] (began log s d) _ m _ (restored early (begun b.records s d) s) _ b.early.entries
    (ap (λ z. g.H.Histories.content z) c.restore.ensures.rest.0) (c.restore.ensures.records ∙ ap (λ z. restored early z s) c.in_ok-step.ensures.begun) c.restore.ensures.rest.2
    (agree-begin log m b.records b.early.entries s d early (sym c.in_ok-step.ensures.step ∙ c.in-New.is) a c.decided_early-early.ensures)
