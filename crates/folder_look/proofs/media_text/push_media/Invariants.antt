use Rattle.folder_look.proofs.Names.{flat_map, ◌≡◌, ◌++◌, take}
use Rattle.folder_look.specs.MediaText.{medium_text}
use Rattle.folder_look.proofs.media_text.push_media.Given as goal

-- those so far are written
abbrev pub invariant-loop-medium : goal.invariant-loop-medium
invariant-loop-medium l = l.out.items ≡ l.fn.out.items ++ flat_map (medium_text l.acts) (take l.medium-index l.media)
