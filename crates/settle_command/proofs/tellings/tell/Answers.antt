use Rattle.std.proofs.Common.{refl, sym, subst}
use Rattle.run_command.specs.Written.{sinking}
use Rattle.run_rounds.specs.declared.ends.End.{End}
use Rattle.settle_command.specs.Tellings.{IsReported, TellsSettle}
use Rattle.settle_command.proofs.tellings.tell.Goals as goal
use Rattle.world_core.specs.declared.traces.Trace.{Trace}

pub returns-in-Ran : goal.returns-in-Ran
returns-in-Ran g c =
    let k = g.O.Sink in
    let plan = c.args.plan.now in
    let run = c.tell_report-status in
    let s = sinking (k.taken c.args.sink.now) (k.taken run.new.sink) (k.faults c.args.sink.now) (k.faults run.new.sink) in
    let told : IsReported plan c.in-Ran.told run.result s = subst (λ (t : Trace). IsReported plan t run.result s) c.trace.ensures run.ensures in
    subst (λ (e : End). TellsSettle plan e run.result c.in-Ran.told s) (sym c.in-Ran.is) (refl, told)
