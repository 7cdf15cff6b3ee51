use Rattle.serial_law.proofs.AnswerRuns.{answers-kept}
use Rattle.serial_law.proofs.run_laws.law_of_answers.Goals as goal

pub returns : goal.returns
returns c = answers-kept
