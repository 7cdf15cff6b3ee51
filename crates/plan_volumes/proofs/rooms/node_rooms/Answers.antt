use Rattle.plan_volumes.proofs.Names.{◌≡◌, ◌≤◌, ◌+◌, ◌∙◌, [], length, vec_capacity, All, ap, sym, subst, arith, length_push, All-push}
use Rattle.plan_volumes.proofs.rooms.node_rooms.Goals as goal

pub loop-preserved : goal.loop-preserved
loop-preserved g c =
    let inv = c.loop.invariant in
    let old = c.loop.rooms.items in
    let new = c.in_ok-with_capacity.field-0 in
    let are = c.push_reserved.ensures.items in
    record {
      count = ap length are ∙ (length_push old new ∙ ap (λ k. k + 1) inv.count);
      empty = subst (λ l. All (λ s. s.items ≡ []) l) (sym are) (All-push (λ s. s.items ≡ []) old new inv.empty c.in_ok-with_capacity.ensures.items);
      room = subst (λ l. All (λ s. 1000 ≤ vec_capacity s) l) (sym are) (All-push (λ s. 1000 ≤ vec_capacity s) old new inv.room (omega (arith, c.in_ok-with_capacity.ensures.capacity)));
      size = omega (arith, c.push_reserved.ensures.len, inv.size);
      whole = omega (arith, inv.whole, c.push_reserved.ensures.capacity);
      same = inv.same;
    }
