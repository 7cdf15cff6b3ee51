use Rattle.script_form.proofs.Names.{◌≡◌, [], take, drop, lines_from}
use Rattle.script_form.proofs.line_splits.first_line.Given as goal

-- the bytes so far are in the first line
abbrev pub invariant-loop-at : goal.invariant-loop-at
invariant-loop-at l = lines_from [] l.bytes ≡ lines_from (take l.at l.bytes) (drop l.at l.bytes)
