use Rattle.std.proofs.Common.{◌≡◌, take}
use Rattle.trace_report.specs.Downs as spec
use Rattle.trace_report.proofs.downs.fallen.Given as goal

abbrev pub invariant-loop-entry : goal.invariant-loop-entry
invariant-loop-entry l = l.downs.items ≡ spec.fallen (take l.entry-index l.entries)
