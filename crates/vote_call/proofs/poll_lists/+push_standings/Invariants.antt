use Rattle.std.proofs.Common.{length}
use Rattle.vote_call.proofs.poll_lists.+push_standings.Given as goal

abbrev pub decreases-push_standings : goal.decreases-push_standings
decreases-push_standings l = length l.lines.now
