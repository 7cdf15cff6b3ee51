use Rattle.object_history.proofs.SettledLemmas.{settled-prefix}
use Rattle.object_history.proofs.laws.settled_versions_only_grow.Goals as goal

pub returns : goal.returns
returns c = settled-prefix
