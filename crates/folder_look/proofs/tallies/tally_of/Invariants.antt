use Rattle.folder_look.proofs.Names.{◌≡◌, drop, counted_over, none}
use Rattle.folder_look.proofs.tallies.tally_of.Given as goal

-- those that are left are counted on
abbrev pub invariant-loop-medium : goal.invariant-loop-medium
invariant-loop-medium l = counted_over (drop l.medium-index l.media) l.sum ≡ counted_over l.media none
