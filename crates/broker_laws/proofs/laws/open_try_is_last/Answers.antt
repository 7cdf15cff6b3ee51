use Rattle.broker_laws.proofs.LastTry.{last-is-open}
use Rattle.broker_laws.proofs.laws.open_try_is_last.Goals as goal

pub returns : goal.returns
returns c = last-is-open
