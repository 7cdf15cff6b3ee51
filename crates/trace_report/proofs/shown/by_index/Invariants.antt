use Rattle.trace_report.proofs.Names.{kept, HasActs}
use Rattle.trace_report.proofs.shown.by_index.Given as goal

abbrev pub invariant-loop-act : goal.invariant-loop-act
invariant-loop-act l = HasActs (kept l.yielded) l.map.entries
