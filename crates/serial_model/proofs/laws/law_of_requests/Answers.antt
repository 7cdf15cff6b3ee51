use Rattle.serial_model.proofs.RequestLemmas.{denote-HasBytes, talk-InRange, stop-InRange}
use Rattle.serial_model.proofs.laws.law_of_requests.Goals as goal

pub returns-clause-requests : goal.returns-clause-requests
returns-clause-requests c = denote-HasBytes

pub returns-clause-stops : goal.returns-clause-stops
returns-clause-stops c = talk-InRange

pub returns-clause-after : goal.returns-clause-after
returns-clause-after c = stop-InRange
