use Rattle.world_core.proofs.Legality.{begins-legal}
use Rattle.world_core.proofs.entry_laws.legal_begins.Goals as goal

pub returns : goal.returns
returns c = begins-legal
