use Rattle.run_starts.proofs.Names.{rules, ◌≡◌, ◌≤◌, ◌++◌, ◌∷◌, [], ℕ, Bool, true, false, Some, length, map, refl, ap, sym, subst, ◌∙◌, arith, length_push, length-map, NodeParts, medium_in, CanSeat, IsNewNode}
use Rattle.run_starts.proofs.AlongLemmas.{along-length, both-popped, both-pushed}
use Rattle.run_starts.proofs.DealLemmas.{no-items}
use Rattle.run_starts.proofs.SeatLemmas.{along-none, map-popped, map-pushed, new-media}
use Rattle.run_starts.proofs.seats.+open_nodes.Goals as goal

pub returns-in_default-clause-passes : goal.returns-in_default-clause-passes
returns-in_default-clause-passes g t c is =
    let w = g.M.Medium in
    let passes = along-none (CanSeat w c.args.plan.now c.args.start) 0 c.args.openings.items c.args.passes.items (no-items c.args.openings c.in_default.ensures.cases.0) c.requires.can in
    ap (map (λ (n : NodeParts g.row.M.Denot). n.pass)) c.requires.empty.0 ∙ sym passes

pub returns-in_default-clause-emptied : goal.returns-in_default-clause-emptied
returns-in_default-clause-emptied g t c is =
    let w = g.M.Medium in
    (c.requires.empty.1, along-none (CanSeat w c.args.plan.now c.args.start) 0 c.args.openings.items c.args.passes.items (no-items c.args.openings c.in_default.ensures.cases.0) c.requires.can)

pub unreachable-requires : goal.unreachable-requires
unreachable-requires g t c =
    let w = g.M.Medium in
    let n = along-length (CanSeat w c.args.plan.now c.args.start) 0 c.args.openings.items c.args.passes.items c.requires.can in
    let k = ap length c.in-Some.ensures.items ∙ length_push c.pop.new.self.items c.in-Some.opening in
    omega (arith, n, k, c.in_default-pop.ensures.cases.0, c.args.passes.ok.0)

pub open_nodes-seated-requires : goal.open_nodes-seated-requires
open_nodes-seated-requires g t c κs within =
    let w = g.M.Medium in
    let front = c.pop.new.self.items in
    let k = ap length c.in-Some.ensures.items ∙ length_push front c.in-Some.opening in
    let both = both-popped (CanSeat w c.args.plan.now c.args.start) c.args.openings.items front c.in-Some.opening c.in-Some.ensures.items c.args.passes.items c.pop-2.new.self.items c.in-Some-pop.pass c.in-Some-pop.ensures.items c.requires.can in
    let few : length front ≤ length c.args.openings.items = omega (arith, k) in
    let size = c.args.openings.ok.0 in
    let less = c.pop.new.self.ok.0 in
    (search rules, (within.0, (within.1.0, (within.1.1, (c.requires.plan, (omega (arith, few, c.requires.count), (both.0, (c.requires.empty, (omega (arith, few, size, less, c.requires.room.0), omega (arith, few, size, less, c.requires.room.1))))))))))

pub seat-requires-clause-can : goal.seat-requires-clause-can
seat-requires-clause-can g t c =
    let w = g.M.Medium in
    let front = c.pop.new.self.items in
    let both = both-popped (CanSeat w c.args.plan.now c.args.start) c.args.openings.items front c.in-Some.opening c.in-Some.ensures.items c.args.passes.items c.pop-2.new.self.items c.in-Some-pop.pass c.in-Some-pop.ensures.items c.requires.can in
    subst (λ (i : ℕ). CanSeat w c.args.plan.now c.args.start i c.in-Some.opening c.in-Some-pop.pass) (sym (c.len-place.ensures ∙ c.pop.new.self.ok.0)) both.1

pub seat-requires-clause-whole : goal.seat-requires-clause-whole
seat-requires-clause-whole g t c is =
    let front = c.pop.new.self.items in
    let o = c.open_nodes-seated.ensures in
    let nodes = c.open_nodes-seated.result.nodes in
    let n = along-length (IsNewNode c.args.plan.now) 0 front nodes.items (o.new is) in
    let k = ap length c.in-Some.ensures.items ∙ length_push front c.in-Some.opening in
    let place = c.len-place.ensures ∙ c.pop.new.self.ok.0 in
    let r = o.room_left is in
    let e = o.emptied is in
    (omega (arith, n, place, nodes.ok.0), omega (arith, n, k, r, nodes.ok.0, c.args.openings.ok.0, c.requires.room.0), e.0, e.1)

pub seat-requires-clause-back : goal.seat-requires-clause-back
seat-requires-clause-back g t c is =
    let w = g.M.Medium in
    let front = c.pop.new.self.items in
    let b = c.open_nodes-seated.ensures.back is in
    let both = both-popped (CanSeat w c.args.plan.now c.args.start) c.args.openings.items front c.in-Some.opening c.in-Some.ensures.items c.args.passes.items c.pop-2.new.self.items c.in-Some-pop.pass c.in-Some-pop.ensures.items c.requires.can in
    let n = along-length (CanSeat w c.args.plan.now c.args.start) 0 front c.pop-2.new.self.items both.0 in
    let m = ap length b.0 ∙ length-map front (λ o. medium_in o) in
    let p = ap length b.1 in
    let place = c.len-place.ensures ∙ c.pop.new.self.ok.0 in
    (omega (arith, m, place, c.open_nodes-seated.result.media.ok.0), omega (arith, n, p, place, c.open_nodes-seated.result.passes.ok.0))

pub seat-requires-clause-room : goal.seat-requires-clause-room
seat-requires-clause-room g t c =
    let w = g.M.Medium in
    let front = c.pop.new.self.items in
    let r = c.open_nodes-seated.ensures.room in
    let n = along-length (CanSeat w c.args.plan.now c.args.start) 0 c.args.openings.items c.args.passes.items c.requires.can in
    let k = ap length c.in-Some.ensures.items ∙ length_push front c.in-Some.opening in
    let place = c.len-place.ensures ∙ c.pop.new.self.ok.0 in
    let kept = c.pop-2.ensures.capacity in
    (omega (arith, r.0, k, place, c.args.openings.ok.0, c.requires.room.1), omega (arith, r.1, n, k, place, kept, c.args.passes.ok.0, c.args.passes.ok.1))

pub returns-clause-new : goal.returns-clause-new
returns-clause-new g t c is =
    let front = c.pop.new.self.items in
    let s = c.seat.ensures.new is in
    let place = c.len-place.ensures ∙ c.pop.new.self.ok.0 in
    both-pushed (IsNewNode c.args.plan.now) c.args.openings.items front c.in-Some.opening c.in-Some.ensures.items c.seat.result.nodes.items c.open_nodes-seated.result.nodes.items s.1.0 s.1.1 (c.open_nodes-seated.ensures.new s.0)
    (subst (λ (i : ℕ). IsNewNode c.args.plan.now i c.in-Some.opening s.1.0) place s.1.2)

pub returns-clause-passes : goal.returns-clause-passes
returns-clause-passes g t c is =
    let s = c.seat.ensures.new is in
    map-popped (λ (n : NodeParts g.row.M.Denot). n.pass) c.seat.result.nodes.items c.open_nodes-seated.result.nodes.items s.1.0 c.args.passes.items c.pop-2.new.self.items c.in-Some-pop.pass s.1.1 (c.open_nodes-seated.ensures.passes s.0) s.1.3 c.in-Some-pop.ensures.items

pub returns-clause-back : goal.returns-clause-back
returns-clause-back g t c is = go c.open_nodes-seated.result.is_whole refl
  where
    go : (b : Bool) → c.open_nodes-seated.result.is_whole ≡ b → (c.seat.result.media.items ≡ map (λ o. medium_in o) c.args.openings.items) × (c.seat.result.passes.items ≡ c.args.passes.items)
    go true whole =
        let s = c.seat.ensures.back is whole in
        let media = new-media c.args.plan.now 0 c.pop.new.self.items c.open_nodes-seated.result.nodes.items (c.open_nodes-seated.ensures.new whole) in
        let passes = c.open_nodes-seated.ensures.passes whole in (
          map-pushed (λ o. medium_in o) c.seat.result.media.items (map (λ (n : NodeParts g.row.M.Denot). Some n.medium) c.open_nodes-seated.result.nodes.items) c.args.openings.items c.pop.new.self.items c.in-Some.opening (medium_in c.in-Some.opening) s.0 media c.in-Some.ensures.items refl,
          s.1 ∙ (ap (λ l. l ++ c.in-Some-pop.pass ∷ []) passes ∙ sym c.in-Some-pop.ensures.items),
        )
    go false not =
        let s = c.seat.ensures.more is not in
        let b = c.open_nodes-seated.ensures.back not in (
          map-pushed (λ o. medium_in o) c.seat.result.media.items c.open_nodes-seated.result.media.items c.args.openings.items c.pop.new.self.items c.in-Some.opening (medium_in c.in-Some.opening) s.0 b.0 c.in-Some.ensures.items refl,
          s.1 ∙ (ap (λ l. l ++ c.in-Some-pop.pass ∷ []) b.1 ∙ sym c.in-Some-pop.ensures.items),
        )

pub returns-clause-room_left : goal.returns-clause-room_left
returns-clause-room_left g t c is = c.seat.ensures.room_left is ∙ c.open_nodes-seated.ensures.room_left (c.seat.ensures.new is).0

pub returns-clause-none : goal.returns-clause-none
returns-clause-none g t c is = c.seat.ensures.none is (λ not. c.open_nodes-seated.ensures.none not)
