use Rattle.script_run.proofs.Names.{Option, subst, Halt, step, stand_of, ArrivesAt}
use Rattle.script_run.proofs.KeepLemmas.{step_same, then_same}
use Rattle.script_run.proofs.steps.go.Goals as goal

pub going-preserved : goal.going-preserved
going-preserved c =
    let script = c.args.script.now in
    let at = stand_of c.going.machine in
    let A : Option Halt → Type 0 = λ r. ArrivesAt (step script at) r c.going.machine c.advance.new.machine in
    then_same script (stand_of c.args.machine.now) at (stand_of c.advance.new.machine) c.going.invariant (step_same script at (stand_of c.advance.new.machine) (subst A c.in-None.is c.in_ok-advance.ensures))
