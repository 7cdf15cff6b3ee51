use Rattle.std.proofs.Common.{◌≡◌, take}
use Rattle.settle_report.specs.Versions.{versions}
use Rattle.settle_report.proofs.versions.versions_of.Given as goal

abbrev pub invariant-loop-effect : goal.invariant-loop-effect
invariant-loop-effect l = l.list.items ≡ versions (take l.effect-index l.log)
