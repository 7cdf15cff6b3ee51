use Rattle.object_retirement.proofs.StoodLemmas.{all-stood}
use Rattle.object_retirement.proofs.laws.all_that_stood.Goals as goal

pub returns : goal.returns
returns c = all-stood
