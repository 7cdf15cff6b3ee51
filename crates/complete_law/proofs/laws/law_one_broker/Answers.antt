use Rattle.complete_law.proofs.OneBroker.{never-said, never-ended}
use Rattle.complete_law.proofs.laws.law_one_broker.Goals as goal

pub returns-clause-said : goal.returns-clause-said
returns-clause-said c = never-said

pub returns-clause-ended : goal.returns-clause-ended
returns-clause-ended c = never-ended
