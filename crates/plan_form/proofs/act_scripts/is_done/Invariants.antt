use Rattle.plan_form.proofs.Names.{◌≡◌, drop, is_done}
use Rattle.plan_form.proofs.act_scripts.is_done.Given as goal

-- the bytes so far are spaces
abbrev pub invariant-loop-at : goal.invariant-loop-at
invariant-loop-at l = is_done l.line ≡ is_done (drop l.at l.line)
