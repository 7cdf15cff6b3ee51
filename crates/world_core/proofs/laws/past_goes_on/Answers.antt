use Rattle.world_core.proofs.Legality.{past-none, past-more}
use Rattle.world_core.proofs.laws.past_goes_on.Goals as goal

pub returns-clause-none : goal.returns-clause-none
returns-clause-none c = past-none

pub returns-clause-more : goal.returns-clause-more
returns-clause-more c = past-more
