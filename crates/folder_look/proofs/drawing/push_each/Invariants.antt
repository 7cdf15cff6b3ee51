use Rattle.folder_look.proofs.Names.{flat_map, ◌≡◌, ◌++◌, take}
use Rattle.folder_look.specs.Shown.{parts_of}
use Rattle.folder_look.specs.Drawing.{row_text}
use Rattle.folder_look.proofs.drawing.push_each.Given as goal

-- those so far are written
abbrev pub invariant-loop-row : goal.invariant-loop-row
invariant-loop-row l = l.out.items ≡ l.fn.out.items ++ flat_map (row_text (parts_of l.shown) l.axis.keys) (take l.row-index l.rows)
