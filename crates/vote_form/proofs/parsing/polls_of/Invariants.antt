use Rattle.std.proofs.Common.{length}
use Rattle.vote_form.proofs.PollsLemmas.{Reading}
use Rattle.vote_form.proofs.parsing.polls_of.Given as goal

-- the polls so far are those of the lines so far
abbrev pub invariant-loop-rest : goal.invariant-loop-rest
invariant-loop-rest l = Reading l.bytes l.rest l.polls.items

abbrev pub decreases-loop-rest : goal.decreases-loop-rest
decreases-loop-rest l = length l.rest
