use Rattle.folder_look.proofs.Names.{◌≡◌, [], drop, with_media}
use Rattle.folder_look.proofs.objects.objects_of.Given as goal

-- those that are left are added to those so far
abbrev pub invariant-loop-medium : goal.invariant-loop-medium
invariant-loop-medium l = with_media (drop l.medium-index l.media) l.all.keys ≡ with_media l.media []
