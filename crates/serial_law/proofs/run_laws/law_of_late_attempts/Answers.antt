use Rattle.serial_law.proofs.SerialRuns.{late-over}
use Rattle.serial_law.proofs.run_laws.law_of_late_attempts.Goals as goal

pub returns : goal.returns
returns c = late-over c.law_clocks.ensures
