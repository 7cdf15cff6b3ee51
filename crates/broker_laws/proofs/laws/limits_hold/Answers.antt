use Rattle.broker_laws.proofs.Limits.{within}
use Rattle.broker_laws.proofs.laws.limits_hold.Goals as goal

pub returns : goal.returns
returns c = within
