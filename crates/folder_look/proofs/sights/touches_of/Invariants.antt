use Rattle.folder_look.proofs.Names.{◌≡◌, drop}
use Rattle.folder_look.specs.Sights.{touches_of, with_touches}
use Rattle.folder_look.proofs.sights.touches_of.Given as goal

-- those that are left are added to those so far
abbrev pub invariant-loop-medium : goal.invariant-loop-medium
invariant-loop-medium l = with_touches (drop l.medium-index l.media) l.touches ≡ touches_of l.media
