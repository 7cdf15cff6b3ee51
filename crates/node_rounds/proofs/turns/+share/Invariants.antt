use Rattle.std.proofs.Common.{length}
use Rattle.node_rounds.proofs.turns.+share.Given as goal

abbrev pub decreases-share : goal.decreases-share
decreases-share g l = length l.nodes.now.items
