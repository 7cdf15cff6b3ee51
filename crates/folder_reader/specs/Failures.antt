-- A medium that failed.
use Rattle.std.specs.Prelude.{ℕ, Option, Some, None}
use Rattle.stream_port.specs.Causes.{Rose}

-- it is given back, and has more faults than before
abbrev pub HasFailed : {M : Type 0} → (M → ℕ) → M → Option M → Type 0
HasFailed faults before None = ⊥
HasFailed faults before (Some after) = Rose (faults before) (faults after)
