use Rattle.trace_report.proofs.Names.{kept_try, try_told, ◌≡◌, map, take}
use Rattle.trace_report.proofs.shown.tries_of.Given as goal

abbrev pub invariant-loop-attempt : goal.invariant-loop-attempt
invariant-loop-attempt l = l.shown.items ≡ map (λ attempt. try_told l.script.lines (kept_try attempt)) (take l.attempt-index l.tries)
