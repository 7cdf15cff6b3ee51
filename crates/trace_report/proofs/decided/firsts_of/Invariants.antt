use Rattle.trace_report.proofs.Names.{repository, AreEach, logs_by, ◌≡◌, length, reverse}
use Rattle.trace_report.proofs.decided.firsts_of.Given as goal

-- of the repositories so far
abbrev pub invariant-loop-below : goal.invariant-loop-below
invariant-loop-below l = (length l.firsts.items ≡ l.below) × AreEach (λ r. reverse (logs_by l.logs (repository r))) l.firsts.items
