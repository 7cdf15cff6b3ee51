use Rattle.trace_report.proofs.Names.{◌≡◌, drop, learned_in_some}
use Rattle.trace_report.proofs.decided.is_learned.Given as goal

-- none so far says so
abbrev pub invariant-loop-one : goal.invariant-loop-one
invariant-loop-one l = learned_in_some l.firsts l.stamp ≡ learned_in_some (drop l.one-index l.firsts) l.stamp
