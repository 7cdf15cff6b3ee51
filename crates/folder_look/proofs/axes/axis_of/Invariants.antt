use Rattle.folder_look.proofs.Names.{◌≡◌, [], drop, with_rows}
use Rattle.folder_look.proofs.axes.axis_of.Given as goal

-- those that are left are added to those so far
abbrev pub invariant-loop-row : goal.invariant-loop-row
invariant-loop-row l = with_rows l.axis.keys (drop l.row-index l.rows) ≡ with_rows [] l.rows
