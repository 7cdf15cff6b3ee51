use Rattle.world_core.proofs.OneReading.{one-reading}
use Rattle.world_core.proofs.plan_laws.one_reading_for_all.Goals as goal

pub returns : goal.returns
returns c = one-reading
