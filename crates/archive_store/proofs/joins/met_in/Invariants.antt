use Rattle.archive_store.proofs.Names.{reverse, take, Meets}
use Rattle.archive_store.proofs.joins.met_in.Given as goal

-- the marks so far
abbrev pub invariant-loop-mark : goal.invariant-loop-mark
invariant-loop-mark l = Meets l.met (reverse (take l.mark-index l.log))
