use Rattle.std.proofs.Common.{length}
use Rattle.run_starts.proofs.seats.+take_apart.Given as goal

abbrev pub decreases-take_apart : goal.decreases-take_apart
decreases-take_apart g l = length l.nodes.items
