use Rattle.repository_core.proofs.Names.{List, [], subst, sym, ap, ◌∙◌, Effect, AgreeBut, Hand, now, expired, ask_again, expiries}
use Rattle.repository_core.proofs.HearLemmas.{again-now, again-log, hearing-listed}
use Rattle.repository_core.proofs.works.Work.on_moment.Goals as goal

pub returns-clause-agreed : goal.returns-clause-agreed
returns-clause-agreed g c =
    subst (λ (l : List Effect). AgreeBut g.H.Histories.content [] l c.expire_all.new.self.books)
    (sym (ap now c.in_ok-ask_again.ensures ∙ again-now c.expire_all.new.self.draft)) c.in_ok-expire_all.ensures.agreed

pub returns-clause-log : goal.returns-clause-log
returns-clause-log g c =
    let a = again-log c.expire_all.new.self.draft in (
      ap (λ (h : Hand). h.number) c.in_ok-ask_again.ensures ∙ a.0 ∙ c.in_ok-expire_all.ensures.log.0 ∙ ap (λ (h : Hand). h.number) c.hear.ensures,
      ap (λ (h : Hand). h.past) c.in_ok-ask_again.ensures ∙ a.1 ∙ c.in_ok-expire_all.ensures.log.1 ∙ ap (λ (h : Hand). h.past) c.hear.ensures,
    )

pub returns-clause-gives : goal.returns-clause-gives
returns-clause-gives g c = λ tells.
    c.in_ok-ask_again.ensures
    ∙ ap ask_again (c.in_ok-expire_all.ensures.gives tells ∙ ap (λ (z : Hand). expired (expiries c.args.moment (now z)) z) c.hear.ensures)
    ∙ sym (hearing-listed c.args.self.now.draft c.args.moment)
