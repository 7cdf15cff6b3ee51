use Rattle.std.proofs.Common.{length}
use Rattle.token_form.proofs.LineLaws.{Sofar}
use Rattle.token_form.proofs.lines.tokens_of.Given as goal

-- the tokens so far are those of the bytes so far
abbrev pub invariant-loop-rest : goal.invariant-loop-rest
invariant-loop-rest l = Sofar l.line l.rest l.tokens.items l.in_limits

abbrev pub decreases-loop-rest : goal.decreases-loop-rest
decreases-loop-rest l = length l.rest
