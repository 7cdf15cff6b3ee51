use Rattle.broker_laws.proofs.TurnLemmas.{opened-ok, blank-ok}
use Rattle.broker_laws.proofs.turn_laws.opened_brokers.Goals as goal

pub returns-clause-any : goal.returns-clause-any
returns-clause-any c = opened-ok

pub returns-clause-empty : goal.returns-clause-empty
returns-clause-empty c = blank-ok
