use Rattle.serial_law.proofs.SerialRuns.{finals-over}
use Rattle.serial_law.proofs.run_laws.law_of_finals.Goals as goal

pub returns : goal.returns
returns c = finals-over c.law_finals.ensures.places
