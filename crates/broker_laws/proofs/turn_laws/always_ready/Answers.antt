use Rattle.broker_laws.proofs.AnyLog.{turn-always}
use Rattle.broker_laws.proofs.turn_laws.always_ready.Goals as goal

pub returns : goal.returns
returns c = turn-always
