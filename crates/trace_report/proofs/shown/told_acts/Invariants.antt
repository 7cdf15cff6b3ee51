use Rattle.trace_report.proofs.Names.{◌≡◌, map, take, act_told, begun_at}
use Rattle.trace_report.proofs.shown.told_acts.Given as goal

abbrev pub invariant-loop-act : goal.invariant-loop-act
invariant-loop-act l = l.shown.items ≡ map (λ act. act_told act (begun_at l.begun.entries act.index)) (take l.act-index l.acts)
