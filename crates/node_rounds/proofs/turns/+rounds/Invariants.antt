use Rattle.std.proofs.Common.{◌+◌, ◌*◌, length}
use Rattle.node_rounds.proofs.turns.+rounds.Given as goal

abbrev pub decreases-beside : goal.decreases-beside
decreases-beside g l = 3 * length l.shares.now.items + 2

abbrev pub decreases-beside-join_mut+arg3 : goal.decreases-beside-join_mut+arg3
decreases-beside-join_mut+arg3 g l = 3 * length l.shares.now.items + 1

abbrev pub decreases-round : goal.decreases-round
decreases-round g l = 3 * length l.shares.now.items
