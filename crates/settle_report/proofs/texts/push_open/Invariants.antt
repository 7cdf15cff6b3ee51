use Rattle.std.proofs.Common.{◌≡◌, ◌++◌, take}
use Rattle.std.specs.List.{flat_map}
use Rattle.settle_report.specs.Texts.{line_by}
use Rattle.settle_report.proofs.texts.push_open.Given as goal

abbrev pub invariant-loop-version : goal.invariant-loop-version
invariant-loop-version l = l.out.items ≡ l.initial.out.items ++ flat_map (line_by l.ledgers) (take l.version-index l.undecided)
