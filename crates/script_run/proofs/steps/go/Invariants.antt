use Rattle.script_run.specs.Steps as spec
use Rattle.script_run.specs.Machines.{stand_of, SameAhead}
use Rattle.script_run.proofs.steps.go.Given as goal

abbrev pub invariant-going : goal.invariant-going
invariant-going l = SameAhead l.script (stand_of l.initial.machine) (stand_of l.machine)

abbrev pub decreases-going : goal.decreases-going
decreases-going l = spec.weight (stand_of l.machine)
