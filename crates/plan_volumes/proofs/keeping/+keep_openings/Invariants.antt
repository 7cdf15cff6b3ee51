use Rattle.std.proofs.Common.{length}
use Rattle.plan_volumes.proofs.keeping.+keep_openings.Given as goal

abbrev pub decreases-keep_openings : goal.decreases-keep_openings
decreases-keep_openings g l = length l.openings.items
