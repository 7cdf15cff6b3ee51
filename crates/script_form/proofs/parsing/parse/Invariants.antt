use Rattle.script_form.proofs.Names.{length, lines}
use Rattle.script_form.proofs.ParseLemmas.{Read}
use Rattle.script_form.proofs.parsing.parse.Given as goal

-- the reader has the lines so far
abbrev pub invariant-loop-rest : goal.invariant-loop-rest
invariant-loop-rest l = Read 16 (lines l.bytes) (lines l.rest) l.reader

abbrev pub decreases-loop-rest : goal.decreases-loop-rest
decreases-loop-rest l = length l.rest
