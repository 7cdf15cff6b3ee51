use Rattle.repository_laws.proofs.ServedLemmas.{serves}
use Rattle.repository_laws.proofs.laws.requests_are_served.Goals as goal

pub returns : goal.returns
returns c = serves
