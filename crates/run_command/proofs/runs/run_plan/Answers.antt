use Rattle.run_command.proofs.Names.{tellers, shelf_sight, sinking}
use Rattle.run_command.proofs.RunLemmas.{over-kept, runs-over}
use Rattle.run_command.proofs.ShelfLemmas.{has-volumes}
use Rattle.run_command.proofs.runs.run_plan.Goals as goal

pub run_taken-requires-clause-taken : goal.run_taken-requires-clause-taken
run_taken-requires-clause-taken g c κs within = let a = c.in-Ok.ensures.given in (a.0, a.1.taken)

pub returns-clause-ran : goal.returns-clause-ran
returns-clause-ran g c =
    let w = g.S.Medium.Medium in
    let h = g.S.Shelf in
    let k = g.O.Sink in
    let t = c.in-Ok.taken in
    let a = c.in-Ok.ensures.given in
    let old = shelf_sight h c.args.shelf.now in
    let new = shelf_sight h c.take_volumes.new.shelf in
    let plan = c.args.plan.now in
    let r = c.run_taken.result in
    let e = c.run_taken.ensures.ends a.0 a.1.taken in
    (runs-over w old new plan a.0 c.args.wanted c.args.options t.wanting
    (tellers (g.F.Fates.asked c.args.fates) (g.F.Fates.asked r.fates) (g.C.Clock.answers c.args.clock) (g.C.Clock.answers r.clock)) r.trace r.media
    (sinking (k.taken c.args.sink.now) (k.taken c.run_taken.new.sink) (k.faults c.args.sink.now) (k.faults c.run_taken.new.sink)) r.status
    c.requires.plan c.laws_of_runs.ensures a.1.apart.memory e (has-volumes w old new plan a.0 t.openings.items t.asides.items t.wanting e.left r.media a.1.apart a.1.taken.count.1 e.handed)).0

pub returns-clause-kept : goal.returns-clause-kept
returns-clause-kept g c =
    let w = g.S.Medium.Medium in
    let h = g.S.Shelf in
    let k = g.O.Sink in
    let t = c.in-Ok.taken in
    let a = c.in-Ok.ensures.given in
    let old = shelf_sight h c.args.shelf.now in
    let new = shelf_sight h c.take_volumes.new.shelf in
    let plan = c.args.plan.now in
    let r = c.run_taken.result in
    let e = c.run_taken.ensures.ends a.0 a.1.taken in
    over-kept w old new plan a.0 c.args.wanted c.args.options t.wanting
    (tellers (g.F.Fates.asked c.args.fates) (g.F.Fates.asked r.fates) (g.C.Clock.answers c.args.clock) (g.C.Clock.answers r.clock)) r.trace r.media
    (sinking (k.taken c.args.sink.now) (k.taken c.run_taken.new.sink) (k.faults c.args.sink.now) (k.faults c.run_taken.new.sink)) r.status
    e (has-volumes w old new plan a.0 t.openings.items t.asides.items t.wanting e.left r.media a.1.apart a.1.taken.count.1 e.handed)
