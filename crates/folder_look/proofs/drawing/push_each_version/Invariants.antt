use Rattle.folder_look.proofs.Names.{flat_map, ◌≡◌, ◌++◌, take}
use Rattle.folder_look.specs.Shown.{parts_of}
use Rattle.folder_look.specs.Drawing.{version_text}
use Rattle.folder_look.proofs.drawing.push_each_version.Given as goal

-- those so far are written
abbrev pub invariant-loop-version : goal.invariant-loop-version
invariant-loop-version l = l.out.items ≡ l.fn.out.items ++ flat_map (version_text (parts_of l.shown)) (take l.version-index l.versions)
