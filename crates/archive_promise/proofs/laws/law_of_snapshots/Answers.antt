use Rattle.archive_promise.proofs.SnappedLemmas.{lawful-snapshot}
use Rattle.archive_promise.proofs.laws.law_of_snapshots.Goals as goal

pub returns : goal.returns
returns c = lawful-snapshot
