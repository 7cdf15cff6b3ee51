use Rattle.std.proofs.Common.{◌≡◌, ◌≤◌, take}
use Rattle.report_writer.specs.Standings as spec
use Rattle.report_writer.proofs.totals.count_of.Given as goal

abbrev pub invariant-loop-act : goal.invariant-loop-act
invariant-loop-act l = (l.count ≡ spec.count_of l.which (take l.act-index l.acts)) × (l.count ≤ l.act-index)
