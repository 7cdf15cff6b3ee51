use Rattle.std.proofs.Common.{◌≡◌, take}
use Rattle.trace_report.proofs.transcripts.copies.Given as goal

abbrev pub invariant-loop-line : goal.invariant-loop-line
invariant-loop-line l = l.copied.items ≡ take l.line-index l.lines
