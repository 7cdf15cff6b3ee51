use Rattle.commit_watch.proofs.Names.{◌≡◌, reverse, take, StampParts, settle_of}
use Rattle.std.specs.FinMap as finite
use Rattle.commit_watch.proofs.scans.settles_of.Given as goal

-- the marks so far
abbrev pub invariant-loop-mark : goal.invariant-loop-mark
invariant-loop-mark l = (p : StampParts) → finite.get l.settles p ≡ settle_of (reverse (take l.mark-index l.marks)) p
