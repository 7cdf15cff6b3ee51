-- When a call on histories may fail: only where a count rose in that call.
use Rattle.std.specs.Prelude.{ℕ, ◌≤◌, Result, IsErrOf}
use Rattle.stream_port.specs.Causes.{Rose}
use Rattle.object_history.specs.declared.steps.HistoryFault.{HistoryFault}
use Rattle.object_history.specs.declared.steps.HistoryFault.TheVariants as fault

-- the counts never fall; Medium comes only where that of faults rose, Damaged only where that of damage did
pub record HasHistoryCause {T : Type 0} (faults new_faults damage new_damage : ℕ) (result : Result T HistoryFault) : Type 0 where
  pub faults_stay : faults ≤ new_faults
  pub damage_stays : damage ≤ new_damage
  pub medium : IsErrOf result fault.Medium → Rose faults new_faults
  pub damaged : (page : ℕ) → IsErrOf result (fault.Damaged page) → Rose damage new_damage

abbrev pub IsNotDamage : HistoryFault → Type 0
IsNotDamage fault.Medium = Unit {0}
IsNotDamage (fault.Damaged page) = ⊥
IsNotDamage fault.NoMemory = Unit {0}
