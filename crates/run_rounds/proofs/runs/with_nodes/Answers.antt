use Rattle.run_rounds.proofs.Names.{knows, IsWirePass, NodeParts, IsDealt, IsNewNode, Pass, tellers, along-length, ◌≡◌, ◌∙◌, [], length, sym, subst, ap, arith, inl, length-map, All, HaveRoom}
use Rattle.seat_lock.specs.Words.{base_of}
use Rattle.run_rounds.specs.declared.ends.End.TheVariants as end
use Rattle.run_rounds.specs.Ends.{IsOver}
use Rattle.run_rounds.specs.Finishes.{EndsTo}
use Rattle.run_rounds.proofs.BackLemmas.{opened-alone, opened-back, opened-kept}
use Rattle.run_rounds.proofs.CloseLemmas.{new-conductor}
use Rattle.run_rounds.proofs.KillLemmas.{unseen-nodes}
use Rattle.run_rounds.proofs.ListLemmas.{all-mapped}
use Rattle.run_rounds.proofs.PlaceLemmas.{pass-count, seats-count}
use Rattle.run_rounds.proofs.RanLemmas.{ends-as}
use Rattle.run_rounds.proofs.SeenLemmas.{none-own}
use Rattle.run_rounds.proofs.SoundLemmas.{can-seat, open-of, ready-nodes}
use Rattle.run_rounds.proofs.runs.with_nodes.Goals as goal

pub stopped-requires-clause-passes : goal.stopped-requires-clause-passes
stopped-requires-clause-passes g c = (c.requires.begun.has.passes_fit, c.requires.begun.has.conducts)

pub stopped-requires-clause-all : goal.stopped-requires-clause-all
stopped-requires-clause-all g c =
    let lock = c.args.begun.wire.lock in
    let wire = base_of lock in
    let passes = c.args.begun.passes in
    let os = c.args.openings.items in
    let plan = c.args.plan.now in
    let n = pass-count wire wire.origin.opened passes.items c.requires.begun.has.unseen in
    omega (arith, n, passes.ok)

pub returns-in_default : goal.returns-in_default
returns-in_default g c first opened =
    let w = g.M.Medium in
    let lock = c.args.begun.wire.lock in
    let wire = base_of lock in
    let passes = c.args.begun.passes in
    let os = c.args.openings.items in
    let plan = c.args.plan.now in
    let r = c.stopped.result in
    let told = tellers wire.origin.asked (g.F.Fates.asked r.fates) wire.origin.answers (g.C.Clock.answers r.clock) in
    subst (λ e. EndsTo w (IsOver c.args.course plan) plan told first r.media e) (sym c.stopped.ensures.end)
    (subst (λ left. EndsTo w (IsOver c.args.course plan) plan told first left end.NoMemory) (sym (c.stopped.ensures.media ∙ c.give_back.ensures.back))
    (opened-back w first os opened, opened-kept w first os opened, λ told. inl (opened-alone w first os opened)))

pub open_nodes-nodes-requires-clause-can : goal.open_nodes-nodes-requires-clause-can
open_nodes-nodes-requires-clause-can g c =
    let lock = c.args.begun.wire.lock in
    let wire = base_of lock in
    let passes = c.args.begun.passes in
    let os = c.args.openings.items in
    let plan = c.args.plan.now in
    can-seat g.M.Medium plan os wire c.args.begun.start passes.items c.requires.begun.set_up c.requires.begun.has.starts c.requires.runnable.ready c.requires.sound c.requires.begun.has.unseen

pub destroy_empty-requires : goal.destroy_empty-requires
destroy_empty-requires g c = c.open_nodes-nodes.ensures.none c.if-not-is_whole.true

pub stopped-requires-then-not-is_whole-clause-passes : goal.stopped-requires-then-not-is_whole-clause-passes
stopped-requires-then-not-is_whole-clause-passes g c =
    let lock = c.args.begun.wire.lock in
    let wire = base_of lock in
    let passes = c.args.begun.passes in
    let os = c.args.openings.items in
    let plan = c.args.plan.now in
    let back = c.open_nodes-nodes.ensures.back c.if-not-is_whole.true in
    (subst (All (IsWirePass lock)) (sym back.1) c.requires.begun.has.passes_fit, c.requires.begun.has.conducts)

pub stopped-requires-then-not-is_whole-clause-all : goal.stopped-requires-then-not-is_whole-clause-all
stopped-requires-then-not-is_whole-clause-all g c =
    let lock = c.args.begun.wire.lock in
    let wire = base_of lock in
    let passes = c.args.begun.passes in
    let os = c.args.openings.items in
    let plan = c.args.plan.now in
    let back = c.open_nodes-nodes.ensures.back c.if-not-is_whole.true in
    let n = pass-count wire wire.origin.opened passes.items c.requires.begun.has.unseen in
    let same = ap length back.1 in
    omega (arith, n, same, c.open_nodes-nodes.result.passes.ok)

pub stopped-requires-then-not-is_whole-clause-room : goal.stopped-requires-then-not-is_whole-clause-room
stopped-requires-then-not-is_whole-clause-room g c =
    let back = c.open_nodes-nodes.ensures.back c.if-not-is_whole.true in
    let same = ap length back.1 in
    omega (arith, same, c.open_nodes-nodes.result.passes.ok, c.args.begun.passes.ok, c.requires.pass_room, c.open_nodes-nodes.ensures.room.1)

pub returns-then-not-is_whole : goal.returns-then-not-is_whole
returns-then-not-is_whole g c first opened =
    let w = g.M.Medium in
    let lock = c.args.begun.wire.lock in
    let wire = base_of lock in
    let passes = c.args.begun.passes in
    let os = c.args.openings.items in
    let plan = c.args.plan.now in
    let back = c.open_nodes-nodes.ensures.back c.if-not-is_whole.true in
    let r = c.stopped-then-not-is_whole.result in
    let told = tellers wire.origin.asked (g.F.Fates.asked r.fates) wire.origin.answers (g.C.Clock.answers r.clock) in
    subst (λ e. EndsTo w (IsOver c.args.course plan) plan told first r.media e) (sym c.stopped-then-not-is_whole.ensures.end)
    (subst (λ left. EndsTo w (IsOver c.args.course plan) plan told first left end.NoMemory) (sym (c.stopped-then-not-is_whole.ensures.media ∙ back.0))
    (opened-back w first os opened, opened-kept w first os opened, λ told. inl (opened-alone w first os opened)))

pub rounds-requires-clause-ready : goal.rounds-requires-clause-ready
rounds-requires-clause-ready g c κs within =
    let lock = c.args.begun.wire.lock in
    let wire = base_of lock in
    let passes = c.args.begun.passes in
    let os = c.args.openings.items in
    let plan = c.args.plan.now in
    let whole = c.if-not-is_whole.false in
    let o = c.open_nodes-nodes in
    ready-nodes lock plan os o.result.nodes.items passes.items (o.ensures.new whole) (o.ensures.passes whole) c.requires.begun.has.passes_fit

pub rounds-requires-clause-count : goal.rounds-requires-clause-count
rounds-requires-clause-count g c κs within =
    let lock = c.args.begun.wire.lock in
    let wire = base_of lock in
    let passes = c.args.begun.passes in
    let os = c.args.openings.items in
    let plan = c.args.plan.now in
    let whole = c.if-not-is_whole.false in
    let o = c.open_nodes-nodes in
    let n = pass-count wire wire.origin.opened passes.items c.requires.begun.has.unseen in
    let same = ap length (o.ensures.passes whole) in
    let long = length-map o.result.nodes.items (λ (n : NodeParts g.row.M.Denot). n.pass) in
    omega (arith, n, same, long)

pub rounds-requires-clause-pass : goal.rounds-requires-clause-pass
rounds-requires-clause-pass g c κs within =
    let lock = c.args.begun.wire.lock in
    let wire = base_of lock in
    let passes = c.args.begun.passes in
    let os = c.args.openings.items in
    let plan = c.args.plan.now in
    let fresh = new-conductor wire (knows c.args.begun.conductor) c.requires.begun.has.conductor_unseen in
    (c.requires.begun.has.conducts, fresh.0, fresh.1)

pub rounds-requires-clause-dealt : goal.rounds-requires-clause-dealt
rounds-requires-clause-dealt g c κs within =
    let shares = c.in-Ok.shares.items in
    subst (λ n. IsDealt n [] shares) (sym c.in-Ok.ensures.count) c.in-Ok.ensures.dealt

pub rounds-requires-clause-bare : goal.rounds-requires-clause-bare
rounds-requires-clause-bare g c κs within = c.in-Ok.ensures.empty

pub rounds-requires-clause-share_room : goal.rounds-requires-clause-share_room
rounds-requires-clause-share_room g c κs within =
    let shares = c.in-Ok.shares.items in
    let whole = c.if-not-is_whole.false in
    let o = c.open_nodes-nodes in
    let long = along-length (IsNewNode c.args.plan.now) 0 c.args.openings.items o.result.nodes.items (o.ensures.new whole) in
    (c.len-count.result, omega (arith, long, c.len-count.ensures, c.args.openings.ok, o.result.nodes.ok), subst (λ n. HaveRoom n c.len-count.result shares) (sym c.in-Ok.ensures.count) c.in-Ok.ensures.room)

pub rounds-requires-clause-empty : goal.rounds-requires-clause-empty
rounds-requires-clause-empty g c κs within = c.open_nodes-nodes.ensures.emptied c.if-not-is_whole.false

pub rounds-requires-clause-room : goal.rounds-requires-clause-room
rounds-requires-clause-room g c κs within =
    let o = c.open_nodes-nodes in
    let passes = c.args.begun.passes in
    let long = along-length (IsNewNode c.args.plan.now) 0 c.args.openings.items o.result.nodes.items (o.ensures.new c.if-not-is_whole.false) in
    let n = seats-count c.args.plan.now c.args.openings.items _ _ (base_of c.args.begun.wire.lock) c.requires.begun.set_up passes.items c.requires.begun.has.unseen in (
      omega (arith, long, o.result.nodes.ok, c.args.openings.ok, c.requires.room, o.ensures.room.0),
      omega (arith, long, n, o.result.nodes.ok, passes.ok, c.requires.pass_room, o.ensures.room.1),
    )

pub returns : goal.returns
returns g c first opened =
    let w = g.M.Medium in
    let lock = c.args.begun.wire.lock in
    let wire = base_of lock in
    let passes = c.args.begun.passes in
    let os = c.args.openings.items in
    let plan = c.args.plan.now in
    let whole = c.if-not-is_whole.false in
    let o = c.open_nodes-nodes in
    let nodes = o.result.nodes.items in
    let own = none-own wire wire.origin.opened passes.items c.requires.begun.has.unseen in
    let unseen = all-mapped (λ (p : Pass). (knows p).own ≡ []) (λ (n : NodeParts g.row.M.Denot). n.pass) nodes (subst (All (λ (p : Pass). (knows p).own ≡ [])) (sym (o.ensures.passes whole)) own) in
    let fresh = unseen-nodes plan os wire.origin.asked wire.origin.answers wire c.requires.begun.set_up passes.items c.requires.begun.has.unseen nodes (o.ensures.passes whole) in
    let r = c.rounds.result in
    ends-as w c.args.course plan c.requires.runnable.of_language lock (g.F.Fates.asked r.fates) (g.C.Clock.answers r.clock) first os opened (open-of w os c.requires.sound) c.requires.runnable.all c.requires.runnable.ready c.requires.begun.set_up nodes (o.ensures.new whole) unseen fresh (g.met.M.Medium g.world.𝓛 g.world.𝓜 g.world.𝓡 ((λ s x. x), (λ x. x), (λ x. x), (λ x. x))).only_now r.media r.end c.rounds.ensures
