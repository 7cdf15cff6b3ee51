use Rattle.folder_look.proofs.Names.{flat_map, ◌≡◌, ◌++◌, take}
use Rattle.folder_look.specs.MediaText.{spoiled_page}
use Rattle.folder_look.proofs.media_text.push_spoiled.Given as goal

-- those so far are written
abbrev pub invariant-loop-page : goal.invariant-loop-page
invariant-loop-page l = l.out.items ≡ l.fn.out.items ++ flat_map spoiled_page (take l.page-index l.pages)
