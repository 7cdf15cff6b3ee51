use Rattle.std.proofs.Common.{◌≡◌, drop}
use Rattle.run_volumes.specs.Volumes as spec
use Rattle.run_volumes.proofs.roles.fresh.Given as goal

-- none of those so far is fresh
abbrev pub invariant-loop-volume : goal.invariant-loop-volume
invariant-loop-volume g l = spec.fresh_from l.volume (spec.logs_of (drop l.volume l.openings)) ≡ spec.fresh (spec.logs_of l.openings)
