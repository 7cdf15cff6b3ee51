use Rattle.broker_laws.proofs.NewRequest.{new-request}
use Rattle.broker_laws.proofs.turn_laws.new_request_differs.Goals as goal

pub returns : goal.returns
returns c = new-request
