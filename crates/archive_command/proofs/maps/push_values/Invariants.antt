use Rattle.archive_command.proofs.Names.{◌≡◌, ◌++◌, take, flat_map, moved_line}
use Rattle.archive_command.proofs.maps.push_values.Given as goal

abbrev pub invariant-loop-moved : goal.invariant-loop-moved
invariant-loop-moved l = l.out.items ≡ l.initial.out.items ++ flat_map moved_line (take l.moved-index l.list)
