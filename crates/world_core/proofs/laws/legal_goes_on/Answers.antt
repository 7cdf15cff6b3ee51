use Rattle.world_core.proofs.Legality.{goes-on}
use Rattle.world_core.proofs.laws.legal_goes_on.Goals as goal

pub returns : goal.returns
returns c = goes-on
