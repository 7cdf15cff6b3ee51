use Rattle.repository_core.proofs.Names.{List, subst, sym, ap, ◌∙◌, Effect, AgreeBut, now, HasSameRecords}
use Rattle.repository_core.proofs.RowLemmas.{now-read, record-by}
use Rattle.repository_core.proofs.works.Work.read.Goals as goal

pub returns-clause-agreed : goal.returns-clause-agreed
returns-clause-agreed g c = λ pending a.
    let h = c.args.self.now.draft in
    subst (λ (l : List Effect). AgreeBut g.H.Histories.content pending l c.read.new.self)
    (sym (ap now c.in_ok-read_as.ensures ∙ now-read h.held h c.args.from c.args.at c.args.object c.in_ok-step.step))
    (c.in_ok-step.ensures.agree pending (now h) a)

pub returns-clause-records : goal.returns-clause-records
returns-clause-records g c =
    let h = c.args.self.now.draft in
    subst (λ (l : List Effect). HasSameRecords (now h) l)
    (sym (ap now c.in_ok-read_as.ensures ∙ now-read h.held h c.args.from c.args.at c.args.object c.in_ok-step.step))
    (record-by (now h) c.args.object c.args.at c.in_ok-step.step)
