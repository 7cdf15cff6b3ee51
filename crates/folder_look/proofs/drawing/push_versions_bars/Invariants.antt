use Rattle.folder_look.proofs.Names.{flat_map, ◌≡◌, ◌++◌, take}
use Rattle.folder_look.specs.Drawing.{bar_text}
use Rattle.folder_look.proofs.drawing.push_versions_bars.Given as goal

-- those so far are written
abbrev pub invariant-loop-version : goal.invariant-loop-version
invariant-loop-version l = l.out.items ≡ l.fn.out.items ++ flat_map (bar_text l.axis.keys) (take l.version-index l.versions)
