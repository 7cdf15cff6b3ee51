use Rattle.folder_look.proofs.Names.{◌≡◌, [], drop}
use Rattle.folder_look.specs.Sights.{with_names}
use Rattle.folder_look.proofs.sights.names_of.Given as goal

-- those that are left are added to those so far
abbrev pub invariant-loop-row : goal.invariant-loop-row
invariant-loop-row l = with_names (drop l.row-index l.rows) l.names.keys ≡ with_names l.rows []
