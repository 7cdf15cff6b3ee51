use Rattle.std.proofs.Common.{length}
use Rattle.vote_call.proofs.poll_lists.+push_polls.Given as goal

abbrev pub decreases-push_polls : goal.decreases-push_polls
decreases-push_polls l = length l.lines.now
