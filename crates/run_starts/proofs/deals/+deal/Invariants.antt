use Rattle.std.proofs.Common.{length}
use Rattle.run_starts.proofs.deals.+deal.Given as goal

abbrev pub decreases-deal : goal.decreases-deal
decreases-deal g l = length l.items.items
