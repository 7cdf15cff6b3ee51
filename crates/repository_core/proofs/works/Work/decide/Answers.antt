use Rattle.repository_core.proofs.Names.{List, [], subst, sym, ap, Effect, AgreeBut, now}
use Rattle.repository_core.proofs.works.Work.decide.Goals as goal

pub returns-clause-agreed : goal.returns-clause-agreed
returns-clause-agreed g c =
    subst (λ (l : List Effect). AgreeBut g.H.Histories.content [] l c.decide.new.self) (sym (ap now c.in_ok-decide-2.ensures))
    (c.in_ok-decide.ensures.agree (now c.args.self.now.draft) c.requires.unknown.0 c.requires.agreed c.requires.unknown.1)
