use Rattle.trace_report.proofs.Names.{kept, act_parts, begun_last, logs_by, ◌≡◌, map}
use Rattle.trace_report.proofs.books.begun_in.Given as goal

-- those of the last brokers, so many of them
abbrev pub invariant-loop-count : goal.invariant-loop-count
invariant-loop-count l = kept l.all.items ≡ map act_parts (begun_last l.plan (logs_by l.logs) l.plan.brokers l.count)
