use Rattle.object_history.proofs.ScanLemmas.{settled-kept}
use Rattle.object_history.proofs.laws.settled_stays.Goals as goal

pub returns : goal.returns
returns c = settled-kept
