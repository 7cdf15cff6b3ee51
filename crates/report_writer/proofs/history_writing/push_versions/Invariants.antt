use Rattle.report_writer.proofs.Names.{◌≡◌, ◌++◌, take, flat_map, told_line}
use Rattle.report_writer.proofs.history_writing.push_versions.Given as goal

abbrev pub invariant-loop-version : goal.invariant-loop-version
invariant-loop-version l = l.out.items ≡ l.initial.out.items ++ flat_map (told_line l.settles l.floor) (take l.version-index l.versions)
