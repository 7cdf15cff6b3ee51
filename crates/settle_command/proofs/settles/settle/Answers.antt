use Rattle.std.proofs.Common.{refl, sym, subst}
use Rattle.plan_form.specs.PlanTexts.{CanRun}
use Rattle.plan_form.specs.declared.plans.Plan.{Plan}
use Rattle.plan_volumes.specs.Shelves.{shelf_sight}
use Rattle.plan_volumes.specs.Volumes.{HasVolumes}
use Rattle.run_command.proofs.ShelfLemmas.{has-volumes}
use Rattle.run_command.specs.Written.{sinking}
use Rattle.run_rounds.specs.Finishes.{tellers}
use Rattle.settle_command.proofs.SettleLemmas.{can-run, over-kept, settles-over}
use Rattle.settle_command.proofs.settles.settle.Goals as goal
use Rattle.settle_command.specs.Contract.{SettleEnds}
use Rattle.settle_command.specs.Plans.{settle_plan}

pub take_volumes-requires : goal.take_volumes-requires
take_volumes-requires g c = subst CanRun (sym c.settle_plan-plan.ensures) (can-run c.args.repositories c.requires.low c.requires.high)

pub settle_taken-requires-clause-plan : goal.settle_taken-requires-clause-plan
settle_taken-requires-clause-plan g c κs within = subst CanRun (sym c.settle_plan-plan.ensures) (can-run c.args.repositories c.requires.low c.requires.high)

pub settle_taken-requires-clause-taken : goal.settle_taken-requires-clause-taken
settle_taken-requires-clause-taken g c κs within = let a = c.in-Ok.ensures.given in (a.0, a.1.taken)

pub returns-clause-settled : goal.returns-clause-settled
returns-clause-settled g c =
    let w = g.S.Medium.Medium in
    let h = g.S.Shelf in
    let k = g.O.Sink in
    let n = c.args.repositories in
    let t = c.in-Ok.taken in
    let a = c.in-Ok.ensures.given in
    let old = shelf_sight h c.args.shelf.now in
    let new = shelf_sight h c.take_volumes.new.shelf in
    let r = c.settle_taken.result in
    let told = tellers (g.F.Fates.asked c.args.fates) (g.F.Fates.asked r.fates) (g.C.Clock.answers c.args.clock) (g.C.Clock.answers r.clock) in
    let s = sinking (k.taken c.args.sink.now) (k.taken c.settle_taken.new.sink) (k.faults c.args.sink.now) (k.faults c.settle_taken.new.sink) in
    let is = c.settle_plan-plan.ensures in
    let e = c.settle_taken.ensures.ends a.0 a.1.taken in
    let has = has-volumes w old new c.settle_plan-plan.result a.0 t.openings.items t.asides.items t.wanting e.left r.media a.1.apart a.1.taken.count.1 e.handed in
    let both : (ends : SettleEnds w (settle_plan n) a.0 t.wanting told r.trace r.media s r.status) × HasVolumes w old new (settle_plan n) a.0 ends.left r.media =
    subst (λ (p : Plan). (ends : SettleEnds w p a.0 t.wanting told r.trace r.media s r.status) × HasVolumes w old new p a.0 ends.left r.media) is (e, has) in
    settles-over w old new n a.0 t.wanting told r.trace r.media s r.status
    (λ asked u legal. (c.law_of_settling.ensures.silent (settle_plan n) asked u refl legal, c.law_of_settling.ensures.expired (settle_plan n) asked u refl legal, c.place_has_past.ensures.past (settle_plan n) asked u (can-run n c.requires.low c.requires.high) legal))
    a.1.apart.memory both.0 both.1

pub returns-clause-kept : goal.returns-clause-kept
returns-clause-kept g c =
    let w = g.S.Medium.Medium in
    let h = g.S.Shelf in
    let k = g.O.Sink in
    let n = c.args.repositories in
    let t = c.in-Ok.taken in
    let a = c.in-Ok.ensures.given in
    let old = shelf_sight h c.args.shelf.now in
    let new = shelf_sight h c.take_volumes.new.shelf in
    let r = c.settle_taken.result in
    let told = tellers (g.F.Fates.asked c.args.fates) (g.F.Fates.asked r.fates) (g.C.Clock.answers c.args.clock) (g.C.Clock.answers r.clock) in
    let s = sinking (k.taken c.args.sink.now) (k.taken c.settle_taken.new.sink) (k.faults c.args.sink.now) (k.faults c.settle_taken.new.sink) in
    let is = c.settle_plan-plan.ensures in
    let e = c.settle_taken.ensures.ends a.0 a.1.taken in
    let has = has-volumes w old new c.settle_plan-plan.result a.0 t.openings.items t.asides.items t.wanting e.left r.media a.1.apart a.1.taken.count.1 e.handed in
    let both : (ends : SettleEnds w (settle_plan n) a.0 t.wanting told r.trace r.media s r.status) × HasVolumes w old new (settle_plan n) a.0 ends.left r.media =
    subst (λ (p : Plan). (ends : SettleEnds w p a.0 t.wanting told r.trace r.media s r.status) × HasVolumes w old new p a.0 ends.left r.media) is (e, has) in
    over-kept w old new n a.0 t.wanting told r.trace r.media s r.status both.0 both.1
