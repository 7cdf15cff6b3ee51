use Rattle.std.proofs.Common.{◌≡◌, ◌++◌}
use Rattle.commit_record.specs.States.{expiring}
use Rattle.commit_record.proofs.records.due_at.Given as goal

-- those so far and those of the deadlines that are left
abbrev pub invariant-loop-stamp : goal.invariant-loop-stamp
invariant-loop-stamp l = l.due.items ++ expiring l.moment l.stamp-iterator ≡ expiring l.moment l.initial.stamp-iterator
