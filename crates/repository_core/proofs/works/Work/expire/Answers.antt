use Rattle.repository_core.proofs.Names.{◌≡◌, ◌∷◌, false, List, subst, sym, ap, ◌∙◌, None, StampParts, Decision, Effect, listed_at, AgreeBut, Hand, now, note, record_of, IsUnknown, release}
use Rattle.repository_draft.specs.Effect.TheVariants as effect
use Rattle.repository_core.proofs.RowLemmas.{tell-now, tell-log}
use Rattle.repository_core.proofs.works.Work.expire.Goals as goal

noted : (g : _) (c : goal.In_ok-release g) → now c.expire-2.new.self ≡ effect.Decide c.args.stamp c.args.decision ∷ now c.args.self.now.draft
noted g c = ap now c.in_ok-expire-2.ensures ∙ tell-now c.args.stamp false (note (effect.Decide c.args.stamp c.args.decision) c.args.self.now.draft)

agreed : (g : _) (c : goal.In_ok-release g) (rest : List (StampParts × Decision)) → IsUnknown (now c.args.self.now.draft) c.args.stamp → listed_at rest c.args.stamp ≡ None
    → AgreeBut g.H.Histories.content ((c.args.stamp, c.args.decision) ∷ rest) (now c.args.self.now.draft) c.args.self.now.books → AgreeBut g.H.Histories.content rest (now c.expire-2.new.self) c.expire.new.self
agreed g c rest unknown once a =
    subst (λ (l : List Effect). AgreeBut g.H.Histories.content rest l c.expire.new.self) (sym (noted g c))
    (c.in_ok-expire.ensures.agree rest (now c.args.self.now.draft) unknown.0 a unknown.1 once)

pub returns-clause-agreed : goal.returns-clause-agreed
returns-clause-agreed g c = λ rest unknown once a. c.in_ok-release.ensures.agreed rest (agreed g c rest unknown once a)

pub returns-clause-records : goal.returns-clause-records
returns-clause-records g c = λ s. c.in_ok-release.ensures.records s ∙ ap (λ l. record_of l s) (noted g c)

pub returns-clause-log : goal.returns-clause-log
returns-clause-log g c =
    let t = tell-log c.args.stamp false (note (effect.Decide c.args.stamp c.args.decision) c.args.self.now.draft) in (
      c.in_ok-release.ensures.log.0 ∙ ap (λ (h : Hand). h.number) c.in_ok-expire-2.ensures ∙ t.0,
      c.in_ok-release.ensures.log.1 ∙ ap (λ (h : Hand). h.past) c.in_ok-expire-2.ensures ∙ t.1,
    )

pub returns-clause-gives : goal.returns-clause-gives
returns-clause-gives g c = λ rest tells unknown once a.
    c.in_ok-release.ensures.gives tells rest (agreed g c rest unknown once a)
    ∙ ap (λ h. release c.args.stamp h) c.in_ok-expire-2.ensures
