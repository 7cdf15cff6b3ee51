use Rattle.std.proofs.Common.{◌≡◌, ◌≤◌, take}
use Rattle.world_core.specs.Counts as spec
use Rattle.trace_report.proofs.counts.ask_count.Given as goal

abbrev pub invariant-loop-one : goal.invariant-loop-one
invariant-loop-one l = (l.count ≡ spec.ask_count (take l.one-index l.sent)) × (l.count ≤ l.one-index)
