use Rattle.broker_laws.proofs.AnyDesks.{turn-on}
use Rattle.broker_laws.proofs.turn_laws.turns_go_on.Goals as goal

pub returns : goal.returns
returns c = λ script me run acts ever d i may k. turn-on script me run acts ever d i may k
