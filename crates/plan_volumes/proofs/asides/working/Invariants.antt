use Rattle.std.proofs.Common.{◌≡◌, drop}
use Rattle.plan_volumes.specs.Volumes as spec
use Rattle.plan_volumes.proofs.asides.working.Given as goal

-- each of those so far was opened
abbrev pub invariant-loop-volume : goal.invariant-loop-volume
invariant-loop-volume g l = spec.unopened_from l.volume (drop l.volume l.openings) ≡ spec.unopened_from 0 l.openings
