use Rattle.broker_laws.proofs.TurnLemmas.{turn-added}
use Rattle.broker_laws.proofs.turn_laws.turns_add_what_counts.Goals as goal

pub returns : goal.returns
returns c = turn-added
