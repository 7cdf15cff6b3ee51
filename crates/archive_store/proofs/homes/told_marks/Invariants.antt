use Rattle.archive_store.proofs.Names.{◌≡◌, ◌++◌, reverse, take, settle_of}
use Rattle.archive_store.specs.Homes.{at_home}
unfoldable use Rattle.archive_store.specs.Homes.{from_homes}
use Rattle.archive_store.proofs.homes.told_marks.Given as goal

-- all marks, and what the homes say for those so far
abbrev pub invariant-loop-mark : goal.invariant-loop-mark
invariant-loop-mark l = l.marks.items ≡ l.archive ++ reverse (from_homes (settle_of (reverse l.archive)) (at_home l.known) (reverse (take l.mark-index l.archive)))
