use Rattle.std.proofs.Common.{◌≡◌, length}
use Rattle.expression_form.specs.Machine as spec
use Rattle.expression_form.proofs.reader.close.Given as goal

abbrev pub invariant-closing : goal.invariant-closing
invariant-closing l = spec.close l.least l.stack l.operand l.level ≡ spec.close l.least l.initial.stack l.initial.operand l.initial.level

abbrev pub decreases-closing : goal.decreases-closing
decreases-closing l = length l.stack
