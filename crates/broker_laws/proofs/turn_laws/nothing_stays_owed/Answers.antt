use Rattle.broker_laws.proofs.TurnLemmas.{go-rests, turn-rests}
use Rattle.broker_laws.proofs.turn_laws.nothing_stays_owed.Goals as goal

pub returns-clause-go : goal.returns-clause-go
returns-clause-go c = go-rests

pub returns-clause-turn : goal.returns-clause-turn
returns-clause-turn c = turn-rests
