use Rattle.broker_laws.proofs.Found.{found-in}
use Rattle.broker_laws.proofs.laws.tries_are_found.Goals as goal

pub returns : goal.returns
returns c = found-in
