use Rattle.commit_watch.proofs.Names.{◌≡◌, reverse, take, ObjectId, standing_at, standing_of, terms_in}
use Rattle.commit_watch.proofs.scans.standings_of.Given as goal

-- the marks so far
abbrev pub invariant-loop-mark : goal.invariant-loop-mark
invariant-loop-mark g l = (o : ObjectId) → standing_at l.standings o ≡ standing_of (terms_in l.scan l.moved) o (reverse (take l.mark-index l.marks))
