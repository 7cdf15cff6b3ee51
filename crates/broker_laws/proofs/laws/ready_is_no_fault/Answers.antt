use Rattle.broker_laws.proofs.ReadyLemmas.{no-fault, fault-none}
use Rattle.broker_laws.proofs.laws.ready_is_no_fault.Goals as goal

pub returns : goal.returns
returns c = λ script me run acts log. (fault-none script me run acts log, no-fault script me run acts log)
