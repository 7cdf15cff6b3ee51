use Rattle.broker_laws.proofs.Desks.{desk-ok}
use Rattle.broker_laws.proofs.TurnLemmas.{gate-ok, crash-ok}
use Rattle.broker_laws.proofs.turn_laws.turns_keep_facts.Goals as goal

pub returns-clause-turn : goal.returns-clause-turn
returns-clause-turn c = desk-ok

pub returns-clause-gated : goal.returns-clause-gated
returns-clause-gated c = gate-ok

pub returns-clause-crashed : goal.returns-clause-crashed
returns-clause-crashed c = crash-ok
