use Rattle.folder_look.proofs.Names.{filter, told_row, is_told_in, ◌≡◌, ◌++◌, map, take}
use Rattle.folder_look.proofs.rows.push_versions.Given as goal

-- those so far were added
abbrev pub invariant-loop-version : goal.invariant-loop-version
invariant-loop-version l = l.rows.items ≡ l.fn.rows.items ++ map (told_row l.older l.settles l.floor) (filter (is_told_in l.choice l.next) (take l.version-index l.versions))
