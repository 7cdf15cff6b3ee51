use Rattle.world_core.proofs.Lives.{same-life}
use Rattle.world_core.proofs.laws.law_of_lives.Goals as goal

pub returns : goal.returns
returns c = same-life
