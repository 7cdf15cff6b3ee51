use Rattle.run_starts.proofs.Names.{◌≡◌, ◌++◌, ◌∷◌, [], true, false, Some, length, ap, sym, ◌∙◌, arith, length-map, medium_in, NodeParts, IsNewNode}
use Rattle.run_starts.proofs.SeatLemmas.{sound-open}
use Rattle.run_starts.proofs.seats.seat.Goals as goal

pub unreachable-requires : goal.unreachable-requires
unreachable-requires g c =
    sound-open g.M.Medium c.args.opening c.requires.can.sound c.in_default.not-Open

pub push_reserved-requires-in-Err : goal.push_reserved-requires-in-Err
push_reserved-requires-in-Err g c =
    let m = c.take_apart-media.ensures in
    let e = ap length m.media ∙ length-map c.args.seated.nodes.items (λ (n : NodeParts g.row.M.Denot). Some n.medium) in
    let w = c.requires.whole c.if-not-is_whole.false in
    omega (arith, e, w.0, m.room.0, c.requires.room.0, c.take_apart-media.result.0.ok.0, c.args.seated.nodes.ok.0)

pub push_reserved-requires-in-Err-2 : goal.push_reserved-requires-in-Err-2
push_reserved-requires-in-Err-2 g c =
    let m = c.take_apart-media.ensures in
    let e = ap length m.passes ∙ length-map c.args.seated.nodes.items (λ (n : NodeParts g.row.M.Denot). n.pass) in
    let w = c.requires.whole c.if-not-is_whole.false in
    omega (arith, e, w.0, m.room.1, c.requires.room.1, c.take_apart-media.result.1.ok.0, c.args.seated.nodes.ok.0)

pub returns-in-Ok-clause-new : goal.returns-in-Ok-clause-new
returns-in-Ok-clause-new g c is =
    let e = c.in-Ok.ensures.new in
    let new : IsNewNode c.args.plan.now c.args.place c.args.opening c.in-Ok.node = record {
      name = ap (λ (n : NodeParts g.row.M.Denot). n.node) e ∙ c.node_at-name.ensures.place;
      up = ap (λ (n : NodeParts g.row.M.Denot). n.condition) e;
      medium = ap (λ o. medium_in o) c.in-Open.is ∙ sym (ap (λ (n : NodeParts g.row.M.Denot). Some n.medium) e);
    } in
    (c.if-not-is_whole.false, (c.in-Ok.node, c.push_reserved-in-Ok.ensures.items, new, ap (λ (n : NodeParts g.row.M.Denot). n.pass) e))

pub returns-in-Err-clause-back : goal.returns-in-Err-clause-back
returns-in-Err-clause-back g c is whole =
    let m = c.take_apart-media.ensures in
    let e = c.in-Err.ensures.err in
    let medium = ap Some e.0 ∙ sym (ap (λ o. medium_in o) c.in-Open.is) in
    (c.push_reserved-in-Err.ensures.items ∙ (λ i. m.media i ++ medium i ∷ []), c.push_reserved-in-Err-2.ensures.items ∙ (λ i. m.passes i ++ e.1 i ∷ []))

pub returns-in-Err-clause-more : goal.returns-in-Err-clause-more
returns-in-Err-clause-more g c is not = let k : true ≡ false = sym c.if-not-is_whole.false ∙ not in absurd cc
