use Rattle.folder_look.proofs.Names.{flat_map, ◌≡◌, ◌++◌, take}
use Rattle.folder_look.specs.MediaText.{banner_text}
use Rattle.folder_look.proofs.media_text.push_banners.Given as goal

-- those so far are written
abbrev pub invariant-loop-medium : goal.invariant-loop-medium
invariant-loop-medium l = l.out.items ≡ l.fn.out.items ++ flat_map banner_text (take l.medium-index l.media)
