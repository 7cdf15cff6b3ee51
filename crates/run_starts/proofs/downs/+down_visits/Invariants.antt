use Rattle.std.proofs.Common.{length}
use Rattle.run_starts.proofs.downs.+down_visits.Given as goal

abbrev pub decreases-down_visits : goal.decreases-down_visits
decreases-down_visits g l = length l.passes.items
