use Rattle.std.proofs.Common.{length}
use Rattle.plan_form.proofs.ScriptReadLemmas.{Feeding}
use Rattle.plan_form.proofs.act_scripts.script_of.Given as goal

-- the reader has the lines so far
abbrev pub invariant-loop-rest : goal.invariant-loop-rest
invariant-loop-rest l = Feeding l.repositories l.before l.bytes l.rest l.at l.reader

abbrev pub decreases-loop-rest : goal.decreases-loop-rest
decreases-loop-rest l = length l.rest
