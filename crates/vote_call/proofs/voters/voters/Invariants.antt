use Rattle.vote_call.proofs.Names.{log_in, opened_voters, ◌≡◌}
use Rattle.vote_call.proofs.voters.voters.Given as goal

-- the members, and the polls so far
abbrev pub invariant-loop-place : goal.invariant-loop-place
invariant-loop-place g l = l.opened.items ≡ opened_voters (log_in l.openings.first) (log_in l.openings.second) (log_in l.openings.third) l.place
