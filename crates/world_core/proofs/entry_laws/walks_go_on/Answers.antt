use Rattle.world_core.specs.Walks.{start_world}
use Rattle.world_core.proofs.Legality.{numbered-join}
use Rattle.world_core.proofs.Lives.{walk-more}
use Rattle.world_core.proofs.Rules.{meets-more}
use Rattle.world_core.proofs.entry_laws.walks_go_on.Goals as goal

pub returns-clause-step : goal.returns-clause-step
returns-clause-step c = walk-more

pub returns-clause-rules : goal.returns-clause-rules
returns-clause-rules c b fates es e meets rule = meets-more b fates (start_world b) es e meets rule

pub returns-clause-numbers : goal.returns-clause-numbers
returns-clause-numbers c = numbered-join
