use Rattle.std.proofs.Common.{length}
use Rattle.node_rounds.proofs.turns.+share_again.Given as goal

abbrev pub decreases-share_again : goal.decreases-share_again
decreases-share_again g l = length l.nodes.now.items
