use Rattle.trace_report.proofs.Names.{Mark, RunLogs, AreDecided, AreLast, List, ◌++◌, reverse, take, marks}
use Rattle.trace_report.proofs.last_versions.LastVersions.add_log.Given as goal

abbrev pub invariant-loop-effect : goal.invariant-loop-effect
invariant-loop-effect l = (k : RunLogs) (m : List Mark) → AreDecided k l.firsts → AreLast k m l.initial.self → AreLast k (marks (reverse (take l.effect-index l.effects)) ++ m) l.self
