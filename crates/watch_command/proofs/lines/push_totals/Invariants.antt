use Rattle.watch_command.proofs.Names.{◌≡◌, ◌++◌, take, total_line}
use Rattle.std.specs.List.{flat_map}
use Rattle.watch_command.proofs.lines.push_totals.Given as goal

abbrev pub invariant-loop-total : goal.invariant-loop-total
invariant-loop-total l = l.out.items ≡ l.initial.out.items ++ flat_map total_line (take l.total-index l.list)
