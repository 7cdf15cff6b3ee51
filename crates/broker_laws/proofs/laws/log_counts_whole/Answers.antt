use Rattle.broker_laws.proofs.Found.{planned}
use Rattle.broker_laws.proofs.Kept.{kept, started}
use Rattle.broker_laws.proofs.TurnLemmas.{ready-cut}
use Rattle.broker_laws.proofs.laws.log_counts_whole.Goals as goal

pub returns-clause-whole : goal.returns-clause-whole
returns-clause-whole c = λ script me run acts log t r. kept script me run acts log t r.same_plan

pub returns-clause-started : goal.returns-clause-started
returns-clause-started c = λ script me run acts log t r e. started script me run acts log t r.same_plan e

pub returns-clause-before : goal.returns-clause-before
returns-clause-before c = ready-cut

pub returns-clause-planned : goal.returns-clause-planned
returns-clause-planned c = planned
