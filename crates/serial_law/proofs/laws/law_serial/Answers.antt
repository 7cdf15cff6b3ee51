use Rattle.serial_law.proofs.Main.{serial}
use Rattle.serial_law.proofs.Traces.{place-puts, place-serial}
use Rattle.serial_law.proofs.laws.law_serial.Goals as goal

pub returns-clause-places : goal.returns-clause-places
returns-clause-places c = place-serial

pub returns-clause-puts : goal.returns-clause-puts
returns-clause-puts c = place-puts

pub returns-clause-facts : goal.returns-clause-facts
returns-clause-facts c = serial
