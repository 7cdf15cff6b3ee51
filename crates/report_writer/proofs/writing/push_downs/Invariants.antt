use Rattle.report_writer.proofs.Names.{◌≡◌, ◌++◌, take, flat_map, down_text}
use Rattle.report_writer.proofs.writing.push_downs.Given as goal

abbrev pub invariant-loop-down : goal.invariant-loop-down
invariant-loop-down l = l.out.items ≡ l.initial.out.items ++ flat_map down_text (take l.down-index l.downs)
