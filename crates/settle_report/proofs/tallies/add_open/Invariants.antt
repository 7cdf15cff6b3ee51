use Rattle.std.proofs.Common.{◌≡◌, ◌≤◌, ◌++◌, length, take}
use Rattle.std.specs.List.{filter}
use Rattle.settle_report.specs.Versions.{is_open_by}
use Rattle.settle_report.proofs.tallies.add_open.Given as goal

abbrev pub invariant-loop-version : goal.invariant-loop-version
invariant-loop-version l =
    (l.undecided.items ≡ l.initial.undecided.items ++ filter (is_open_by l.is) (take l.version-index l.versions))
    × (l.count ≡ length (filter (is_open_by l.is) (take l.version-index l.versions))) × (l.count ≤ l.version-index)
