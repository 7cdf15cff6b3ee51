use Rattle.trace_report.proofs.Names.{NodeId, RunLogs, AreDecided, AreLast, logs_by, ◌≡◌, [], reverse, marks_to}
use Rattle.trace_report.proofs.last_versions.LastVersions.add_logs.Given as goal

-- the logs of the repositories so far
abbrev pub invariant-loop-below : goal.invariant-loop-below
invariant-loop-below l = (k : RunLogs) → ((n : NodeId) → k.logs n ≡ reverse (logs_by l.logs n)) → AreDecided k l.firsts → AreLast k [] l.initial.self → AreLast k (marks_to k l.below) l.self
