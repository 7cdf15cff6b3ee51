use Rattle.folder_look.proofs.Names.{flat_map, ◌≡◌, ◌++◌, take}
use Rattle.folder_look.specs.Shown.{parts_of}
use Rattle.folder_look.specs.Lines.{line_text}
use Rattle.folder_look.proofs.lines.push_each.Given as goal

-- those so far are written
abbrev pub invariant-loop-medium : goal.invariant-loop-medium
invariant-loop-medium l = l.out.items ≡ l.fn.out.items ++ flat_map (line_text (parts_of l.shown)) (take l.medium-index l.media)
