use Rattle.broker_core.proofs.ReadingLemmas.{printable-apart, reads-own, reads-all}
use Rattle.broker_core.proofs.laws.law_of_readings.Goals as goal

pub returns-clause-apart : goal.returns-clause-apart
returns-clause-apart c = printable-apart

pub returns-clause-own : goal.returns-clause-own
returns-clause-own c = reads-own

pub returns-clause-among : goal.returns-clause-among
returns-clause-among c = reads-all
