use Rattle.serial_law.proofs.Before.{finals-hold}
use Rattle.serial_law.proofs.Traces.{place-finals}
use Rattle.serial_law.proofs.laws.law_finals.Goals as goal

pub returns-clause-places : goal.returns-clause-places
returns-clause-places c = place-finals

pub returns-clause-facts : goal.returns-clause-facts
returns-clause-facts c = finals-hold
