use Rattle.std.proofs.Common.{length}
use Rattle.plan_form.proofs.ActReadLemmas.{Reading}
use Rattle.plan_form.proofs.acts.acts_of.Given as goal

-- the acts so far are those of the lines so far
abbrev pub invariant-loop-rest : goal.invariant-loop-rest
invariant-loop-rest l = Reading l.repositories l.brokers l.before l.bytes l.rest l.at l.acts.items

abbrev pub decreases-loop-rest : goal.decreases-loop-rest
decreases-loop-rest l = length l.rest
