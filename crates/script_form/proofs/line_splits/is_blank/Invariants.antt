use Rattle.script_form.proofs.Names.{◌≡◌, drop, is_blank}
use Rattle.script_form.proofs.line_splits.is_blank.Given as goal

-- the bytes so far are spaces
abbrev pub invariant-loop-byte : goal.invariant-loop-byte
invariant-loop-byte l = is_blank l.line ≡ is_blank (drop l.byte-index l.line)
