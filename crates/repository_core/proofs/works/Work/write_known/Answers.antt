use Rattle.repository_core.proofs.Names.{List, [], subst, sym, ap, ◌∙◌, Effect, AgreeBut, Hand, now, HasSameLog}
use Rattle.repository_draft.specs.WriteStep.TheVariants.{Again}
use Rattle.repository_core.proofs.RowLemmas.{now-known, log-known}
use Rattle.repository_core.proofs.works.Work.write_known.Goals as goal

pub returns-clause-agreed : goal.returns-clause-agreed
returns-clause-agreed g c =
    let h = c.args.self.now.draft in let o = c.args.object in let v = c.args.value.now in
    subst (λ (l : List Effect). AgreeBut g.H.Histories.content [] l c.stands.new.self)
    (sym (ap now (c.in_ok-write_known.ensures o v Again) ∙ now-known h c.args.from c.args.at o v c.in_ok-stands.stands Again))
    (c.in_ok-stands.ensures.agree [] (now h) c.requires.agreed)

pub returns-clause-log : goal.returns-clause-log
returns-clause-log g c =
    let h = c.args.self.now.draft in let o = c.args.object in let v = c.args.value.now in
    subst (λ (n : Hand). HasSameLog h n) (sym (c.in_ok-write_known.ensures o v Again)) (log-known h c.args.from c.args.at o v c.in_ok-stands.stands Again)
