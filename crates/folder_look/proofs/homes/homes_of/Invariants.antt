use Rattle.std.specs.FinMap as finite
use Rattle.folder_look.proofs.Names.{◌≡◌, drop, with_homes}
use Rattle.folder_look.proofs.homes.homes_of.Given as goal

-- those that are left are added to those so far
abbrev pub invariant-loop-medium : goal.invariant-loop-medium
invariant-loop-medium l = with_homes (drop l.medium-index l.media) l.homes ≡ with_homes l.media finite.empty
