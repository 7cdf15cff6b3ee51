use Rattle.std.proofs.Common.{length}
use Rattle.run_starts.proofs.deals.+let_go.Given as goal

abbrev pub decreases-let_go : goal.decreases-let_go
decreases-let_go g l = length l.shares.items
