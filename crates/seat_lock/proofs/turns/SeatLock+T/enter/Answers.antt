use Rattle.seat_lock.proofs.Names.{◌∷◌, length, sym, ap, ◌∙◌, subst, refl, Begins, HasOwn, holding, CarriesOn, knows}
use Rattle.seat_lock.proofs.Showing.{carries_on, shown_is}
use Rattle.seat_lock.proofs.turns.SeatLock+T.enter.Goals as goal

pub returns-clause-value : goal.returns-clause-value
returns-clause-value g c =
    let pass = c.requires.pass in let drew = c.draw-ticket.ensures in let t = c.wait.ensures.took in let x = t.0 in let me_is = t.2.0 in let b = pass.based in
    let base = ap (λ v. v.base) drew.ticket.2 ∙ b.1 in (
      x,
      record {
        here = c.wait.ensures.here ∙ (drew.here.0 ∙ pass.here);
        holds = ap (λ m. holding m.0.stage) me_is;
        slot = ap (λ m. m.1) me_is ∙ ap (λ l. (0, x) ∷ l) (drew.here.1 ∙ pass.empty);
        owned = ap (λ m. length m.0.parts) me_is ∙ (ap (λ v. length v.parts) drew.ticket.2 ∙ pass.owned);
        based = (b.0, ap (λ m. m.0.base) me_is ∙ base, b.2);
      },
      subst (λ z. g.T.Storied.stands z x) b.2 (t.2.3 b.0 base),
      t.2.1 ∙ sym (ap (λ m. m.0.story) me_is),
    )

pub returns-clause-carries : goal.returns-clause-carries
returns-clause-carries g c =
    let owner = g.T.Storied.owner in let drew = c.draw-ticket.ensures.ticket.2 in let t = c.wait.ensures.took in let l = t.1 in
    subst (λ z. CarriesOn owner (knows c.args.pass) z) (sym (ap (λ m. m.0.story) t.2.0))
    (carries_on owner c.args.pass.me.0 l c.requires.pass.owned (subst (λ z. Begins z l) (ap (λ v. v.story) drew) t.2.2.0) (subst (λ z. HasOwn owner z l) (ap (λ v. v.parts) drew) t.2.2.1))

pub returns-clause-kept : goal.returns-clause-kept
returns-clause-kept g c =
    let drew = c.draw-ticket.ensures.ticket.2 in let took = c.wait.ensures.took.2.0 in
    shown_is c.args.pass.me.0 c.wait.new.seat.me.0 _ _ _ (ap (λ m. m.0.base) took ∙ ap (λ v. v.base) drew) (ap (λ m. m.0.parts) took ∙ ap (λ v. v.parts) drew) refl (ap (λ m. m.0.tests) took ∙ ap (λ v. v.tests) drew)
    (ap (λ m. m.0.posts) took ∙ ap (λ v. v.posts) drew)
