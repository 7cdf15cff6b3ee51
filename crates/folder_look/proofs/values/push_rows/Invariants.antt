use Rattle.folder_look.proofs.Names.{flat_map, ◌≡◌, ◌++◌, take}
use Rattle.folder_look.specs.Shown.{parts_of}
use Rattle.folder_look.specs.Values.{value_text_of}
use Rattle.folder_look.proofs.values.push_rows.Given as goal

-- those so far are written
abbrev pub invariant-loop-row : goal.invariant-loop-row
invariant-loop-row l = l.out.items ≡ l.fn.out.items ++ flat_map (value_text_of (parts_of l.shown)) (take l.row-index l.rows)
