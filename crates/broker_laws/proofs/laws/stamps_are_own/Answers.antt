use Rattle.broker_laws.proofs.Moves.{clocks, distinct}
use Rattle.broker_laws.proofs.laws.stamps_are_own.Goals as goal

pub returns-clause-below : goal.returns-clause-below
returns-clause-below c = clocks

pub returns-clause-distinct : goal.returns-clause-distinct
returns-clause-distinct c = distinct
