use Rattle.repository_core.proofs.Names.{List, [], subst, sym, ap, ◌∙◌, Effect, AgreeBut, now, wrote}
use Rattle.repository_core.proofs.RowLemmas.{now-write}
use Rattle.repository_core.proofs.works.Work.write.Goals as goal

pub returns-clause-agreed : goal.returns-clause-agreed
returns-clause-agreed g c =
    let h = c.args.self.now.draft in
    subst (λ (l : List Effect). AgreeBut g.H.Histories.content [] l c.write.new.self)
    (sym (ap now c.in_ok-write_as.ensures ∙ now-write h c.args.from c.args.at c.args.object c.in_ok-copy.copy c.in_ok-step.step ∙ ap (λ v. wrote (now h) c.args.object c.args.at v c.in_ok-step.step) c.in_ok-copy.ensures))
    (c.in_ok-step.ensures.agree [] (now h) c.requires.agreed)
