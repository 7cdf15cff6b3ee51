use Rattle.serial_law.specs.Reasons.{end_of}
use Rattle.serial_law.proofs.run_laws.law_of_added_reasons.Goals as goal

pub returns : goal.returns
returns c plan asked t legal = c.law_causes.ensures.added (end_of plan asked t legal)
