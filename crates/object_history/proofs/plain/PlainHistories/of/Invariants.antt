use Rattle.std.proofs.Common.{◌≡◌, reverse, take}
use Rattle.object_history.proofs.plain.PlainHistories.of.Given as goal

-- the marks so far
abbrev pub invariant-loop-mark : goal.invariant-loop-mark
invariant-loop-mark l = l.histories ≡ reverse (take l.mark-index l.marks)
