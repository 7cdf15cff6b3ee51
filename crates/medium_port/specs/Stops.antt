-- Which calls of a medium in memory are to fail.
use Rattle.std.specs.Prelude.{ℕ, Bool, false, ◌==◌, ◌&&◌, if◌then◌else◌, List, [], ◌∷◌, Option, Some, None, ◌-◌, ◌++◌, take, length, replicate}
use Rattle.medium_port.specs.declared.stops.StopAt.{StopAt}
use Rattle.medium_port.specs.declared.stops.StopAt.TheVariants.{Call, Write}
use Rattle.medium_port.specs.declared.stops.Stop.{Stop}

-- the call with this number is to fail, at a write one to this page and place
abbrev pub is_at : ℕ → Option (ℕ × ℕ) → StopAt → Bool
is_at call write (Call number) = number == call
is_at call None (Write page at) = false
is_at call (Some write) (Write page at) = (page == write.0) && (at == write.1)

-- the first stop that this call meets
abbrev pub first_met : ℕ → Option (ℕ × ℕ) → List Stop → Option Stop
first_met call write [] = None
first_met call write (stop ∷ stops) = if is_at call write stop.at then Some stop else first_met call write stops

-- the stops without it, since each is used once
abbrev pub without_met : ℕ → Option (ℕ × ℕ) → List Stop → List Stop
without_met call write [] = []
without_met call write (stop ∷ stops) = if is_at call write stop.at then stops else stop ∷ without_met call write stops

-- what a stop leaves of the bytes of a write: the first as they were written, and its own byte for the others
abbrev pub torn_bytes : Stop → List ℕ → List ℕ
torn_bytes stop bytes = take stop.keep bytes ++ replicate (length bytes - stop.keep) stop.fill
