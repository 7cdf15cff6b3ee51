use Rattle.folder_look.proofs.Names.{flat_map, ◌≡◌, ◌++◌, take}
use Rattle.folder_look.specs.Shown.{parts_of}
use Rattle.folder_look.specs.Page.{acts_text}
use Rattle.folder_look.proofs.pages.push_all_acts.Given as goal

-- those so far are written
abbrev pub invariant-loop-medium : goal.invariant-loop-medium
invariant-loop-medium l = l.out.items ≡ l.fn.out.items ++ flat_map (acts_text (parts_of l.shown)) (take l.medium-index l.media)
