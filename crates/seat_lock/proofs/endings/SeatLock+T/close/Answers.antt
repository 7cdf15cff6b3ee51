use Rattle.seat_lock.proofs.Names.{arith, ◌≡◌, [], ◌∷◌, ◌++◌, All, get_or, ap, sym, ◌∙◌, subst, append-nil, Begins, HasOwn, IsOneOf, Belongs, CarriesOn, knows}
use mathlib.Core.Option.{some-injective}
use Rattle.seat_lock.proofs.SplitJoin.{closes}
use Rattle.seat_lock.proofs.Showing.{carries_on}
use Rattle.seat_lock.proofs.Gathering.{all_after, all_middle, all_before}
use Rattle.seat_lock.proofs.endings.SeatLock+T.close.Goals as goal

pub gather-requires-clause-pass : goal.gather-requires-clause-pass
gather-requires-clause-pass g c = let F = Belongs c.args.self.table.shared.table_id c.args.self.table.shared.key.state.value in
    all_middle F c.pop.new.self.items c.in-Some.seat [] (subst (λ l. All F l) (c.in-Some.ensures.items ∙ sym (append-nil (c.pop.new.self.items ++ c.in-Some.seat ∷ []))) c.requires.passes)

pub gather-requires-clause-passes : goal.gather-requires-clause-passes
gather-requires-clause-passes g c = let F = Belongs c.args.self.table.shared.table_id c.args.self.table.shared.key.state.value in
    all_before F c.pop.new.self.items c.in-Some.seat (subst (λ l. All F l) c.in-Some.ensures.items c.requires.passes)

pub returns : goal.returns
returns g c =
    let t = closes _ _ _ _ _ _ _ c.gather.ensures.idle.0 (omega (arith, c.gather.ensures.idle.1, c.in-Some.ensures.len, c.requires.all.0)) c.close_with-closed.ensures.values.2 in
    let l = t.1 in let pass = c.in-Some.seat in let owner = g.T.Storied.owner in
    let is = some-injective _ _ (sym t.2 ∙ c.take-value.ensures.value) in
    let covers = c.gather.ensures.covers in
    let before = all_after (λ p. Begins p.me.0.story l × HasOwn owner p.me.0.parts l) c.pop.new.self.items pass (λ k d lt. covers.1 k d lt l (t.4, t.5, t.6)) (covers.0 l (t.4, t.5, t.6)) in
    let known = subst (λ ps. All (λ p. Begins p.me.0.story l × HasOwn owner p.me.0.parts l) ps) (sym c.in-Some.ensures.items) before in
    let list : l ≡ g.T.Storied.story c.take-value.result = sym t.3.1 ∙ ap g.T.Storied.story is in record {
      stands = subst (λ x. g.T.Storied.stands c.args.self.table.shared.key.state.value x) is t.3.0;
      owned = subst (λ z. All (λ e. IsOneOf c.args.self.table.shared.key.owners.items (owner e)) z) list t.7;
      carries = subst (λ z. All (λ p. CarriesOn owner (knows p) z) c.args.passes.items) list (λ k d lt. let p = get_or c.args.passes.items k d in let h = known k d lt in carries_on owner p.me.0 l (c.requires.passes k d lt).owned h.0 h.1);
    }
