use Rattle.run_volumes.proofs.Names.{◌≡◌, drop, current, current_from}
use Rattle.run_volumes.specs.Volumes as spec
use Rattle.run_volumes.proofs.roles.current.Given as goal

-- the last one so far that is whole
abbrev pub invariant-loop-volume : goal.invariant-loop-volume
invariant-loop-volume g l = current_from l.found l.volume (spec.logs_of (drop l.volume l.openings)) ≡ current (spec.logs_of l.openings)
