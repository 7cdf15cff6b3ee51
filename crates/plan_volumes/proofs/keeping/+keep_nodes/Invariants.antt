use Rattle.std.proofs.Common.{length}
use Rattle.plan_volumes.proofs.keeping.+keep_nodes.Given as goal

abbrev pub decreases-keep_nodes : goal.decreases-keep_nodes
decreases-keep_nodes g l = length l.asides.items
