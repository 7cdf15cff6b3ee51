use Rattle.serial_law.proofs.AnswerRuns.{spent-rightly}
use Rattle.serial_law.proofs.run_laws.law_of_spent_acts.Goals as goal

pub returns : goal.returns
returns c = spent-rightly c.law_causes.ensures.spent
