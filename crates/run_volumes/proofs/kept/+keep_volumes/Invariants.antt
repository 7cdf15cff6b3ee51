use Rattle.std.proofs.Common.{length}
use Rattle.run_volumes.proofs.kept.+keep_volumes.Given as goal

abbrev pub decreases-keep_volumes : goal.decreases-keep_volumes
decreases-keep_volumes g l = length l.media.items
