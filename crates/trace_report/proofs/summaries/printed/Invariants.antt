use Rattle.std.proofs.Common.{◌≡◌, drop, None}
use Rattle.trace_report.specs.Reports as spec
use Rattle.trace_report.proofs.summaries.printed.Given as goal

abbrev pub invariant-loop-line : goal.invariant-loop-line
invariant-loop-line l = spec.printed None l.lines ≡ spec.printed l.last (drop l.line-index l.lines)
