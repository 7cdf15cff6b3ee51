use Rattle.archive_law.proofs.IdleLemmas.{homes-tell}
use Rattle.archive_law.proofs.laws.law_of_snapshot.Goals as goal

pub returns : goal.returns
returns c = homes-tell
