use Rattle.broker_laws.proofs.Nobody.{turn-nobody}
use Rattle.broker_laws.proofs.turn_laws.brokers_ask_nobody.Goals as goal

pub returns : goal.returns
returns c = turn-nobody
