use Rattle.std.proofs.Common.{◌≡◌, drop}
use Rattle.run_command.specs.Parts as spec
use Rattle.run_command.proofs.parts.is_among.Given as goal

-- none of those so far is the node's
abbrev pub invariant-loop-one : goal.invariant-loop-one
invariant-loop-one l = spec.takes_part l.opened l.node ≡ spec.takes_part (drop l.one-index l.opened) l.node
