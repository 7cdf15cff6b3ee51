use Rattle.serial_law.proofs.SerialRuns.{reasons-over}
use Rattle.serial_law.proofs.run_laws.law_of_reasons.Goals as goal

pub returns : goal.returns
returns c = reasons-over c.law_facts.ensures c.law_causes.ensures.ends
