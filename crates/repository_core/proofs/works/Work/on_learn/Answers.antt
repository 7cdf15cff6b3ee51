use Rattle.repository_core.proofs.Names.{[], sym, ap, ◌∙◌, now, release}
use Rattle.repository_core.proofs.RowLemmas.{on-learn-none}
use Rattle.repository_core.proofs.works.Work.on_learn.Goals as goal

pub returns-in_ok-release-in-None-clause-agreed : goal.returns-in_ok-release-in-None-clause-agreed
returns-in_ok-release-in-None-clause-agreed g c = c.in_ok-release-in-None.ensures.agreed [] c.in_ok-learn-in-None.ensures.agreed

pub returns-in_ok-release-in-None-clause-gives : goal.returns-in_ok-release-in-None-clause-gives
returns-in_ok-release-in-None-clause-gives g c = λ tells.
    let h = c.args.self.now.draft in
    c.in_ok-release-in-None.ensures.gives tells [] c.in_ok-learn-in-None.ensures.agreed
    ∙ ap (λ z. release c.args.stamp z) c.in_ok-learn-in-None.ensures.gives
    ∙ sym (on-learn-none h c.args.stamp c.args.committed (sym (c.known.ensures.known [] (now h) c.requires.agreed) ∙ c.in-None.is))
