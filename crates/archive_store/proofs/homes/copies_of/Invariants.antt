use Rattle.archive_store.proofs.Names.{◌≡◌, take}
use Rattle.archive_store.proofs.homes.copies_of.Given as goal

-- the copies so far
abbrev pub invariant-loop-mark : goal.invariant-loop-mark
invariant-loop-mark l = l.copies.items ≡ take l.mark-index l.marks
