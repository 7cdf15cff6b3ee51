use Rattle.object_history.proofs.ViewLemmas.{reach-stays}
use Rattle.object_history.proofs.laws.reach_rises.Goals as goal

pub returns : goal.returns
returns c = reach-stays
