-- What a run is for.
use Rattle.std.specs.Prelude.{ℕ, ◌≤◌}
use Rattle.run_rounds.specs.declared.goals.Course.{Course}
use Rattle.run_rounds.specs.declared.goals.Course.TheVariants.{Acts, Settling}

-- at least one thread gives the nodes their turns
abbrev pub HasWorkers : Course → Type 0
HasWorkers (Acts limits) = 1 ≤ limits.workers
HasWorkers Settling = Unit {0}
