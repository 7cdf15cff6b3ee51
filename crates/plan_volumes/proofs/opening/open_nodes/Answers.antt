use Rattle.plan_volumes.proofs.Names.{length_push, node_at, shelf_sight, ◌≡◌, ◌≤◌, ◌∙◌, [], true, false, length, vec_capacity, Some, ap, sym, arith, All-pop}
use Rattle.plan_volumes.proofs.ApartLemmas.{apart-next, apart-none}
use Rattle.plan_volumes.proofs.opening.open_nodes.Goals as goal

pub loop-room-init : goal.loop-room-init
loop-room-init g c =
    let none = ap length c.requires.openings.0 in
    record {
      apart = ([], sym none, apart-none g.S.Medium.Medium (shelf_sight g.S.Shelf c.args.shelf.now) c.args.plan.now c.args.openings.items c.args.asides.items c.requires.openings.0 c.requires.asides.0);
      count = omega (arith, c.requires.rooms, none);
      long = ap length c.requires.asides.0 ∙ sym none;
      empty = c.requires.room.0;
      room = c.requires.room.1;
      places = (c.requires.openings.1, c.requires.asides.1);
    }

pub open_node-opening-requires : goal.open_node-opening-requires
open_node-opening-requires g c =
    let inv = c.loop-room.invariant in
    let old = c.loop-room.rooms.items in
    let new = c.pop.new.self.items in
    record {
      room = ((All-pop (λ s. s.items ≡ []) old new (Some c.in-Some.room) c.in-Some.ensures.items inv.empty).1, (All-pop (λ s. 1000 ≤ vec_capacity s) old new (Some c.in-Some.room) c.in-Some.ensures.items inv.room).1);
    }

pub loop-room-preserved-then-is_short : goal.loop-room-preserved-then-is_short
loop-room-preserved-then-is_short g c =
    let inv = c.loop-room.invariant in
    let old = c.loop-room.rooms.items in
    let new = c.pop.new.self.items in
    let fewer = ap length c.in-Some.ensures.items ∙ length_push new c.in-Some.room in
    let more = ap length c.push_reserved.ensures.items ∙ length_push c.loop-room.openings.items c.open_node-opening.result.0 in
    let beside = ap length c.push_reserved-in-Some.ensures.items ∙ length_push c.loop-room.asides.items c.open_node-opening.result.1 in
    let at : c.node_at-node.result ≡ node_at c.args.plan.now (length c.loop-room.openings.items) = c.node_at-node.ensures.place ∙ ap (node_at c.args.plan.now) (omega (arith, c.len.ensures, c.loop-room.openings.ok)) in
    record {
      apart = apart-next g.S.Medium.Medium (shelf_sight g.S.Shelf c.args.shelf.now) (shelf_sight g.S.Shelf c.loop-room.shelf) (shelf_sight g.S.Shelf c.open_node-opening.new.shelf) c.args.plan.now c.loop-room.is_short c.loop-room.is_short
          c.loop-room.openings.items c.push_reserved.new.self.items c.loop-room.asides.items c.push_reserved-in-Some.new.self.items inv.apart c.node_at-node.result c.open_node-opening.result.0 c.open_node-opening.result.1 c.open_node-opening.result.2
          at c.open_node-opening.ensures (λ e. absurd (let z : true ≡ false = sym c.if-is_short.true ∙ e in cc z)) c.push_reserved.ensures.items c.push_reserved-in-Some.ensures.items;
      count = omega (arith, inv.count, fewer, more);
      long = omega (arith, inv.long, more, beside);
      empty = (All-pop (λ s. s.items ≡ []) old new (Some c.in-Some.room) c.in-Some.ensures.items inv.empty).0;
      room = (All-pop (λ s. 1000 ≤ vec_capacity s) old new (Some c.in-Some.room) c.in-Some.ensures.items inv.room).0;
      places = (omega (arith, inv.places.0, c.push_reserved.ensures.capacity), omega (arith, inv.places.1, c.push_reserved-in-Some.ensures.capacity));
    }

pub loop-room-preserved : goal.loop-room-preserved
loop-room-preserved g c =
    let inv = c.loop-room.invariant in
    let old = c.loop-room.rooms.items in
    let new = c.pop.new.self.items in
    let fewer = ap length c.in-Some.ensures.items ∙ length_push new c.in-Some.room in
    let more = ap length c.push_reserved.ensures.items ∙ length_push c.loop-room.openings.items c.open_node-opening.result.0 in
    let beside = ap length c.push_reserved-in-Some.ensures.items ∙ length_push c.loop-room.asides.items c.open_node-opening.result.1 in
    let at : c.node_at-node.result ≡ node_at c.args.plan.now (length c.loop-room.openings.items) = c.node_at-node.ensures.place ∙ ap (node_at c.args.plan.now) (omega (arith, c.len.ensures, c.loop-room.openings.ok)) in
    record {
      apart = apart-next g.S.Medium.Medium (shelf_sight g.S.Shelf c.args.shelf.now) (shelf_sight g.S.Shelf c.loop-room.shelf) (shelf_sight g.S.Shelf c.open_node-opening.new.shelf) c.args.plan.now c.loop-room.is_short c.open_node-opening.result.2
          c.loop-room.openings.items c.push_reserved.new.self.items c.loop-room.asides.items c.push_reserved-in-Some.new.self.items inv.apart c.node_at-node.result c.open_node-opening.result.0 c.open_node-opening.result.1 c.open_node-opening.result.2
          at c.open_node-opening.ensures (λ e. (c.if-is_short.false, e)) c.push_reserved.ensures.items c.push_reserved-in-Some.ensures.items;
      count = omega (arith, inv.count, fewer, more);
      long = omega (arith, inv.long, more, beside);
      empty = (All-pop (λ s. s.items ≡ []) old new (Some c.in-Some.room) c.in-Some.ensures.items inv.empty).0;
      room = (All-pop (λ s. 1000 ≤ vec_capacity s) old new (Some c.in-Some.room) c.in-Some.ensures.items inv.room).0;
      places = (omega (arith, inv.places.0, c.push_reserved.ensures.capacity), omega (arith, inv.places.1, c.push_reserved-in-Some.ensures.capacity));
    }
