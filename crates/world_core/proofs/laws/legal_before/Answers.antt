use Rattle.world_core.proofs.Legality.{before-legal}
use Rattle.world_core.proofs.laws.legal_before.Goals as goal

pub returns : goal.returns
returns c = before-legal
