use Rattle.folder_look.proofs.Names.{◌≡◌, drop}
use Rattle.folder_look.specs.Sights.{tries_of, with_brokers}
use Rattle.folder_look.proofs.sights.tries_of.Given as goal

-- those that are left are added to those so far
abbrev pub invariant-loop-medium : goal.invariant-loop-medium
invariant-loop-medium l = with_brokers l.choice l.touches (drop l.medium-index l.media) l.tries.keys ≡ tries_of l.choice l.touches l.media
