use Rattle.archive_promise.proofs.RetiredLemmas.{may-go-on}
use Rattle.archive_promise.proofs.laws.law_of_retirements.Goals as goal

pub returns : goal.returns
returns c = may-go-on
