use Rattle.seat_lock.specs.Words.{base_of}
use Rattle.run_rounds.proofs.CloseLemmas.{closed-as, whole-untold}
use Rattle.run_rounds.proofs.ends.closed_run.Goals as goal

pub returns-in-Ok-clause-closed : goal.returns-in-Ok-clause-closed
returns-in-Ok-clause-closed g c =
    let r = c.in-Ok.field-0 in
    let e = c.in-Ok.ensures in
    closed-as g.M.Medium.tells (base_of c.args.wire.lock).origin c.args.ended.passes.items c.args.ended.reason r.told r.idle (g.F.Fates.asked r.fates) (g.C.Clock.answers r.clock) e.whole e.carries e.owned e.idle c.told_by.result c.told_by.ensures

pub returns-in-Ok-clause-untold : goal.returns-in-Ok-clause-untold
returns-in-Ok-clause-untold g c =
    let r = c.in-Ok.field-0 in
    let e = c.in-Ok.ensures in
    whole-untold g.M.Medium.tells (base_of c.args.wire.lock).origin c.args.ended.passes.items r.told (g.F.Fates.asked r.fates) (g.C.Clock.answers r.clock) e.whole e.carries e.owned c.told_by.result
