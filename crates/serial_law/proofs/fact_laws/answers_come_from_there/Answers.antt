use Rattle.serial_law.proofs.OwnAnswers.{all-answered-there}
use Rattle.serial_law.proofs.fact_laws.answers_come_from_there.Goals as goal

pub returns : goal.returns
returns c p b = all-answered-there p b
