use Rattle.broker_core.proofs.SameTurns.{desk-same, keep-same, fault-same}
use Rattle.broker_core.proofs.laws.readings_agree.Goals as goal

pub returns-clause-turns : goal.returns-clause-turns
returns-clause-turns c = desk-same

pub returns-clause-counts : goal.returns-clause-counts
returns-clause-counts c = keep-same

pub returns-clause-faults : goal.returns-clause-faults
returns-clause-faults c = fault-same
