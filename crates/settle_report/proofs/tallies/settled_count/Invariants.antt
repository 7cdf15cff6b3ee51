use Rattle.std.proofs.Common.{◌≡◌, ◌≤◌, length, take}
use Rattle.std.specs.List.{filter}
use Rattle.settle_report.specs.Versions.{is_settled_between}
use Rattle.settle_report.proofs.tallies.settled_count.Given as goal

abbrev pub invariant-loop-version : goal.invariant-loop-version
invariant-loop-version l = (l.count ≡ length (filter (is_settled_between l.committed l.was l.is) (take l.version-index l.versions))) × (l.count ≤ l.version-index)
