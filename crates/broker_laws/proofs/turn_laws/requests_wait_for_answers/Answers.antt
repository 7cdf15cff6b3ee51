use Rattle.broker_laws.proofs.WaitLemmas.{empty-waits, turn-waits, standing-waits}
use Rattle.broker_laws.proofs.turn_laws.requests_wait_for_answers.Goals as goal

pub returns-clause-empty : goal.returns-clause-empty
returns-clause-empty c = empty-waits

pub returns-clause-turn : goal.returns-clause-turn
returns-clause-turn c = turn-waits

pub returns-clause-standing : goal.returns-clause-standing
returns-clause-standing c = standing-waits
