use Rattle.std.proofs.Common.{length}
use Rattle.run_starts.proofs.seats.+open_nodes.Given as goal

abbrev pub decreases-open_nodes : goal.decreases-open_nodes
decreases-open_nodes g l = length l.openings.items
