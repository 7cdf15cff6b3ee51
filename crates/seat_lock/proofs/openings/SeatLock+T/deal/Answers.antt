use Rattle.seat_lock.proofs.Names.{arith, ◌≡◌, ◌<◌, [], ◌∷◌, ◌++◌, length, ap, sym, ◌∙◌, subst, append_assoc, Idle, View, other_parts, dealing, dealt_out, AreNew, nil_from_length}
use Rattle.seat_lock.proofs.SplitJoin.{deals}
use Rattle.seat_lock.proofs.Dealing.{parts_cut, are_new_snoc}
use Rattle.seat_lock.proofs.openings.SeatLock+T.deal.Goals as goal

pub split_seat-requires : goal.split_seat-requires
split_seat-requires g c = let inv = c.loop.invariant in
    (inv.0 ∙ c.requires.here, omega (arith, c.args.self.now.sized), deals _ _ _ _ _ (ap (λ m. m.0.stage) inv.1 ∙ c.requires.idle.0))

pub loop-preserved : goal.loop-preserved
loop-preserved g c =
    let V = View g.row.T.Denot g.row.T-Entry.Denot in let inv = c.loop.invariant in let cut = c.split_seat.ensures in
    let v0 : V = c.args.seat.me.0 in let v : V = c.loop.seat.me.0 in let now : V = c.split_seat.new.seat.me.0 in
    let some_left : 0 < length v.parts = omega (arith, inv.2, c.loop-test.true) in
    let t = parts_cut v.parts some_left in
    let parts_now : now.parts ≡ other_parts v.parts = ap (λ m. m.0.parts) cut.2 in
    let view_is = ap (λ m. m.0) inv.1 in
    let given : c.args.seat.me.0.parts ≡ (inv.5.0 ++ t.0 ∷ []) ++ now.parts =
    inv.5.1 ∙ (ap (λ l. inv.5.0 ++ l) (t.2 ∙ ap (λ l. t.0 ∷ l) (sym parts_now)) ∙ sym (append_assoc inv.5.0 (t.0 ∷ []) now.parts)) in (
      cut.0 ∙ inv.0,
      cut.2 ∙ (ap (λ m. (dealing m.0, m.1)) inv.1 ∙ λ i. (let w : V = record v0 { parts = sym parts_now i } in w, [])),
      omega (arith, inv.2, ap length parts_now, ap length t.2),
      omega (arith, inv.3, c.push_reserved.ensures.len),
      omega (arith, inv.4, c.push_reserved.ensures.capacity),
      (
        inv.5.0 ++ t.0 ∷ [],
        given,
        subst (λ l. AreNew c.args.self.now.table.shared.table_id v0 (inv.5.0 ++ t.0 ∷ []) l) (sym c.push_reserved.ensures.items)
            (are_new_snoc c.args.self.now.table.shared.table_id v0 inv.5.0 c.loop.passes.items t.0 _ inv.5.2 (cut.3 ∙ (inv.0 ∙ c.requires.here))
            (cut.4 ∙ (ap (λ z. (dealt_out z, [])) view_is ∙ λ i. (let w : V = record v0 { stage = Idle; parts = t.1 i; heard = [] } in w, [])))),
      ),
    )

pub returns : goal.returns
returns g c =
    let V = View g.row.T.Denot g.row.T-Entry.Denot in let inv = c.loop.invariant in let v0 : V = c.args.seat.me.0 in let v : V = c.loop.seat.me.0 in
    let some_left : 0 < length v.parts = omega (arith, inv.2, c.loop-test.false, c.loop.auto.counter-end, c.requires.count.1) in
    let t = parts_cut v.parts some_left in
    let none_else : length (other_parts v.parts) ≡ 0 = omega (arith, inv.2, c.loop-test.false, c.loop.auto.counter-end, c.requires.count.1, ap length t.2) in
    let one : v.parts ≡ t.0 ∷ [] = t.2 ∙ ap (λ l. t.0 ∷ l) (nil_from_length (other_parts v.parts) none_else) in
    let given : v0.parts ≡ inv.5.0 ++ t.0 ∷ [] = inv.5.1 ∙ ap (λ l. inv.5.0 ++ l) one in
    let me_is = inv.1 ∙ (λ i. (let w : V = record v0 { stage = c.requires.idle.0 i; parts = one i; heard = c.requires.idle.2 i } in w, [])) in
    subst (λ l. AreNew c.args.self.now.table.shared.table_id v0 l c.push_reserved-2.new.self.items) (sym given)
    (subst (λ l. AreNew c.args.self.now.table.shared.table_id v0 (inv.5.0 ++ t.0 ∷ []) l) (sym c.push_reserved-2.ensures.items)
    (are_new_snoc c.args.self.now.table.shared.table_id v0 inv.5.0 c.loop.passes.items t.0 c.loop.seat inv.5.2 (inv.0 ∙ c.requires.here) me_is))
