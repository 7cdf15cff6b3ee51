use Rattle.broker_laws.proofs.Done.{rested-done}
use Rattle.broker_laws.proofs.turn_laws.rested_is_done.Goals as goal

pub returns : goal.returns
returns c = rested-done
