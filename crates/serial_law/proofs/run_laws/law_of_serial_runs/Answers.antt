use Rattle.serial_law.proofs.SerialRuns.{serial-over}
use Rattle.serial_law.proofs.run_laws.law_of_serial_runs.Goals as goal

pub returns : goal.returns
returns c = serial-over c.law_serial.ensures.places c.law_serial.ensures.puts
