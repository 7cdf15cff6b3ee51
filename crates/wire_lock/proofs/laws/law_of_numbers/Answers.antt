use Rattle.wire_lock.proofs.DecisionLemmas.{number-one, number-some}
use Rattle.wire_lock.proofs.laws.law_of_numbers.Goals as goal

pub returns-clause-one : goal.returns-clause-one
returns-clause-one c = number-one

pub returns-clause-some : goal.returns-clause-some
returns-clause-some c = number-some
