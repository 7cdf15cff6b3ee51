use Rattle.world_core.proofs.Rules.{meets-grown}
use Rattle.world_core.proofs.laws.more_fates_change_nothing.Goals as goal

pub returns : goal.returns
returns c = meets-grown
