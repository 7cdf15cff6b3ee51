use Rattle.archive_store.proofs.Names.{◌≡◌, ◌++◌, List, take, Mark, firsts, met_after, Meets}
use Rattle.archive_store.proofs.joins.add_firsts.Given as goal

-- the marks so far
abbrev pub invariant-loop-mark : goal.invariant-loop-mark
invariant-loop-mark l = (m : List Mark) → Meets l.fn.met m → (l.marks.items ≡ l.fn.marks.items ++ firsts l.floor m (take l.mark-index l.log)) × Meets l.met (met_after l.floor m (take l.mark-index l.log))
