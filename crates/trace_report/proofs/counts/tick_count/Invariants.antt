use Rattle.std.proofs.Common.{◌≡◌, ◌≤◌, take}
use Rattle.world_core.specs.Counts as spec
use Rattle.trace_report.proofs.counts.tick_count.Given as goal

abbrev pub invariant-loop-entry : goal.invariant-loop-entry
invariant-loop-entry l = (l.count ≡ spec.tick_count (take l.entry-index l.entries)) × (l.count ≤ l.entry-index)
