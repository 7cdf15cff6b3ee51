use Rattle.serial_law.proofs.Traces.{answers-asked, answers-sent}
use Rattle.serial_law.proofs.fact_laws.answers_were_sent.Goals as goal

pub returns-clause-asked : goal.returns-clause-asked
returns-clause-asked c = answers-asked

pub returns-clause-sent : goal.returns-clause-sent
returns-clause-sent c = answers-sent
