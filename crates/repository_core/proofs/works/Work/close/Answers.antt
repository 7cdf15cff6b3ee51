use Rattle.repository_core.proofs.Names.{List, [], subst, sym, ap, ◌∙◌, Effect, AgreeBut, Hand, now, send, is_commit, release, tell_askers}
use Rattle.repository_draft.specs.Message.TheVariants as message
use Rattle.repository_core.proofs.RowLemmas.{tell-now, tell-log}
use Rattle.repository_core.proofs.works.Work.close.Goals as goal

agreed : (g : _) (c : goal.In_ok-release g) → AgreeBut g.H.Histories.content [] (now c.tell_askers.new.self) c.decide.new.self.books
agreed g c =
    subst (λ (l : List Effect). AgreeBut g.H.Histories.content [] l c.decide.new.self.books)
    (sym (ap now c.in_ok-tell_askers.ensures ∙ tell-now c.args.stamp c.is_commit.result c.decided.new.self ∙ ap now c.in_ok-decided.ensures))
    c.in_ok-decide.ensures.agreed

pub returns-clause-agreed : goal.returns-clause-agreed
returns-clause-agreed g c = c.in_ok-release.ensures.agreed [] (agreed g c)

pub returns-clause-log : goal.returns-clause-log
returns-clause-log g c =
    let t = tell-log c.args.stamp c.is_commit.result c.decided.new.self in (
      c.in_ok-release.ensures.log.0 ∙ ap (λ (h : Hand). h.number) c.in_ok-tell_askers.ensures ∙ t.0 ∙ ap (λ (h : Hand). h.number) c.in_ok-decided.ensures ∙ c.in_ok-decide.ensures.log.0,
      c.in_ok-release.ensures.log.1 ∙ ap (λ (h : Hand). h.past) c.in_ok-tell_askers.ensures ∙ t.1 ∙ ap (λ (h : Hand). h.past) c.in_ok-decided.ensures ∙ c.in_ok-decide.ensures.log.1,
    )

pub returns-clause-gives : goal.returns-clause-gives
returns-clause-gives g c = λ tells.
    let s = c.args.stamp in let d = c.args.decision in
    c.in_ok-release.ensures.gives tells [] (agreed g c)
    ∙ ap (λ h. release s h)
    (c.in_ok-tell_askers.ensures ∙ ap (λ b. tell_askers s b c.decided.new.self) c.is_commit.ensures
    ∙ ap (λ h. tell_askers s (is_commit d) h) (c.in_ok-decided.ensures ∙ ap (λ h. send c.args.from (message.Decided s d) h) c.in_ok-decide.ensures.gives))
