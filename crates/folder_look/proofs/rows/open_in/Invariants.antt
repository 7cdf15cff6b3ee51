use Rattle.folder_look.proofs.Names.{◌≡◌, drop}
use Rattle.folder_look.specs.Rows.{open_from}
use Rattle.folder_look.proofs.rows.open_in.Given as goal

-- those that are left are counted on
abbrev pub invariant-loop-version : goal.invariant-loop-version
invariant-loop-version l = open_from l.count (drop l.version-index l.versions) ≡ open_from 0 l.versions
