use Rattle.std.proofs.Common.{◌≡◌, drop}
use Rattle.trace_report.specs.Downs as spec
use Rattle.trace_report.proofs.downs.cause_of.Given as goal

-- none of those so far is the node's
abbrev pub invariant-loop-down : goal.invariant-loop-down
invariant-loop-down l = spec.cause_of l.downs l.node ≡ spec.cause_of (drop l.down-index l.downs) l.node
