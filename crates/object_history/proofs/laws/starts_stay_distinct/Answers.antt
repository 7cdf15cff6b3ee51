use Rattle.object_history.proofs.ScanLemmas.{distinct-kept, one-version}
use Rattle.object_history.proofs.laws.starts_stay_distinct.Goals as goal

pub returns-clause-kept : goal.returns-clause-kept
returns-clause-kept c = distinct-kept

pub returns-clause-one : goal.returns-clause-one
returns-clause-one c = one-version
