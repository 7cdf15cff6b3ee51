use Rattle.seat_lock.proofs.Names.{rules, arith, ◌≡◌, [], ◌∷◌, ◌++◌, length, All, ap, sym, ◌∙◌, subst, append_assoc, length-append, common_steps, gathered, Covers, Belongs}
use Rattle.seat_lock.proofs.SplitJoin.{gathers}
use Rattle.seat_lock.proofs.Gathering.{covers_right, covers_more, all_more, all_cons, all_middle}
use Rattle.seat_lock.proofs.endings.SeatLock+T.gather.Goals as goal

pub join_seat-requires : goal.join_seat-requires
join_seat-requires g c =
    let pass = c.in-Some.pass in let inv = c.loop-pass.invariant in let F = Belongs c.args.self.now.table.shared.table_id c.args.self.now.table.shared.key.state.value in
    let items : c.args.passes.items ≡ (c.pop.new.self.items ++ pass ∷ []) ++ inv.4.0 = inv.4.1 ∙ ap (λ l. l ++ inv.4.0) c.in-Some.ensures.items in
    let belongs = all_middle F c.pop.new.self.items pass inv.4.0 (subst (λ l. All F l) items c.requires.passes) in (
      inv.0 ∙ c.requires.pass.here,
      belongs.here,
      belongs.empty,
      omega (arith, c.args.self.now.sized),
      gathers _ _ _ _ _ _ _ inv.1 belongs.idle,
    )

pub loop-pass-preserved : goal.loop-pass-preserved
loop-pass-preserved g c =
    let pass = c.in-Some.pass in let inv = c.loop-pass.invariant in let joined = c.join_seat.ensures.2 in
    let v = c.loop-pass.seat.me.0 in let w = pass.me.0 in let owner = g.T.Storied.owner in
    let items : c.args.passes.items ≡ c.pop.new.self.items ++ (pass ∷ inv.4.0) = inv.4.1 ∙ (ap (λ l. l ++ inv.4.0) c.in-Some.ensures.items ∙ append_assoc c.pop.new.self.items (pass ∷ []) inv.4.0) in
    let F = Belongs c.args.self.now.table.shared.table_id c.args.self.now.table.shared.key.state.value in
    let cut : c.args.passes.items ≡ (c.pop.new.self.items ++ pass ∷ []) ++ inv.4.0 = inv.4.1 ∙ ap (λ l. l ++ inv.4.0) c.in-Some.ensures.items in
    let belongs = all_middle F c.pop.new.self.items pass inv.4.0 (subst (λ l. All F l) cut c.requires.passes) in
    let seen = sym (ap (λ m. m.0) joined) in (
      c.join_seat.ensures.0 ∙ inv.0,
      ap (λ m. m.0.stage) joined ∙ inv.1,
      omega (arith, ap (λ m. length m.0.parts) joined, length-append v.parts w.parts, inv.2, belongs.owned, c.in-Some.ensures.len),
      subst (λ z. Covers owner z c.args.seat.now.me.0) seen (covers_more owner v w c.args.seat.now.me.0 inv.3),
      (
        pass ∷ inv.4.0,
        items,
        subst (λ z. All (λ p. Covers owner z p.me.0) (pass ∷ inv.4.0)) seen
            (all_cons (λ p. Covers owner (gathered v w) p.me.0) pass inv.4.0 (covers_right owner v w) (all_more owner (λ p. p.me.0) v w inv.4.0 inv.4.2)),
      ),
    )

pub returns-clause-covers : goal.returns-clause-covers
returns-clause-covers g c =
    let inv = c.loop-pass.invariant in
    let none_left : c.loop-pass.passes.items ≡ [] = first_of (search rules, grind (arith, common_steps)) in
    let items : c.args.passes.items ≡ inv.4.0 = inv.4.1 ∙ ap (λ l. l ++ inv.4.0) none_left in
    (inv.3, subst (λ l. All (λ p. Covers g.T.Storied.owner c.loop-pass.seat.me.0 p.me.0) l) (sym items) inv.4.2)
