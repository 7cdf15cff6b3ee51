use Rattle.broker_laws.proofs.Clocks.{late}
use Rattle.broker_laws.proofs.laws.tries_are_late.Goals as goal

pub returns : goal.returns
returns c = late
