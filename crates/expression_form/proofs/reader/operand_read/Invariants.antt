use Rattle.std.proofs.Common.{◌≡◌, [], drop}
use Rattle.expression_form.specs.Machine as spec
use Rattle.expression_form.specs.declared.frames.Mode.TheVariants as m
use Rattle.expression_form.proofs.reader.operand_read.Given as goal

abbrev pub invariant-loop-token : goal.invariant-loop-token
invariant-loop-token l = spec.run (spec.state l.stack l.mode) (drop l.token-index l.tokens) ≡ spec.run (spec.state [] m.Want) l.tokens
