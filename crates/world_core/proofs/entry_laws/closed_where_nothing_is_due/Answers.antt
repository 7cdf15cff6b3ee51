use Rattle.world_core.proofs.Closed.{closed}
use Rattle.world_core.proofs.entry_laws.closed_where_nothing_is_due.Goals as goal

pub returns : goal.returns
returns c = closed
