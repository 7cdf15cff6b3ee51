use Rattle.archive_law.proofs.IdleLemmas.{idle-tells}
use Rattle.archive_law.proofs.RunLemmas.{run-tells}
use Rattle.archive_law.proofs.laws.law_of_asof.Goals as goal

pub returns-clause-pasts : goal.returns-clause-pasts
returns-clause-pasts c = idle-tells

pub returns-clause-runs : goal.returns-clause-runs
returns-clause-runs c plan asked t whole legal logs left agrees r inside s = run-tells plan asked t logs left r s whole legal agrees inside
