use Rattle.commit_watch.proofs.Names.{◌≡◌, reverse, take, floor_of}
use Rattle.commit_watch.proofs.scans.floor_among.Given as goal

-- the floor so far
abbrev pub invariant-loop-mark : goal.invariant-loop-mark
invariant-loop-mark l = l.floor ≡ floor_of (reverse (take l.mark-index l.marks))
