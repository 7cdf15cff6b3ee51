use Rattle.broker_laws.proofs.Found.{one-request}
use Rattle.broker_laws.proofs.laws.one_request.Goals as goal

pub returns : goal.returns
returns c = λ script ts x q r. one-request script 0 ts x q r
