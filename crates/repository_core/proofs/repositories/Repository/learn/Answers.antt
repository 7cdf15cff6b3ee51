use Rattle.repository_core.proofs.Names.{ap, ◌∙◌, Core, gives, Learning}
use Rattle.repository_core.proofs.TurnLemmas.{gives-is, begins-agreed}
use Rattle.repository_core.proofs.repositories.Repository.learn.Goals as goal

pub on_learn-requires-clause-agreed : goal.on_learn-requires-clause-agreed
on_learn-requires-clause-agreed g c =
    begins-agreed g.H.Histories.content c.self.inside.work.draft c.start.new.self.draft c.self.inside.work.books c.start.new.self.books
    (c.self.invariant (ap (λ (r : Core g.row.H.Denot). r.is_failed) c.self.view_is ∙ c.requires.able)) c.start.ensures.draft c.start.ensures.agreed

pub returns-clause-gives : goal.returns-clause-gives
returns-clause-gives g c = λ tells.
    let h = c.self.inside.work.draft in
    let o = c.self.invariant (ap (λ (r : Core g.row.H.Denot). r.is_failed) c.self.view_is ∙ c.requires.able) in
    gives-is h c.start.new.self.draft c.on_learn.new.self.draft c.close.new.self (Learning c.args.stamp c.args.committed) c.in_ok-turn.turn o.0 o.1 c.start.ensures.draft
    (c.in_ok-on_learn.ensures.gives tells) c.in_ok-turn.ensures.effects c.in_ok-turn.ensures.outs c.in_ok-turn.ensures.closed
    ∙ ap (λ (r : Core g.row.H.Denot). gives r.number r.log r.mind (Learning c.args.stamp c.args.committed)) c.self.view_is
