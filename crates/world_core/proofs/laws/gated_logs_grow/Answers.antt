use Rattle.world_core.proofs.Lives.{gated-grows}
use Rattle.world_core.proofs.laws.gated_logs_grow.Goals as goal

pub returns : goal.returns
returns c = gated-grows
