use Rattle.broker_laws.proofs.Tries.{played, proven}
use Rattle.broker_laws.proofs.laws.answers_came.Goals as goal

pub returns-clause-asked : goal.returns-clause-asked
returns-clause-asked c = played

pub returns-clause-came : goal.returns-clause-came
returns-clause-came c = proven
