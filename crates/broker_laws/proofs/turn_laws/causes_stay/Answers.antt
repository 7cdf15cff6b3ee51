use Rattle.broker_laws.proofs.TurnLemmas.{effs-more}
use Rattle.broker_laws.proofs.turn_laws.causes_stay.Goals as goal

pub returns : goal.returns
returns c = effs-more
