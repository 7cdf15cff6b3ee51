use Rattle.trace_report.proofs.Names.{◌≡◌, drop, logs_by}
use Rattle.trace_report.proofs.node_logs.log_of.Given as goal

-- the node isn't among those so far
abbrev pub invariant-loop-one : goal.invariant-loop-one
invariant-loop-one l = logs_by l.logs l.node ≡ logs_by (drop l.one-index l.logs) l.node
