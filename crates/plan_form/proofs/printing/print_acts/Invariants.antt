use Rattle.plan_form.proofs.Names.{◌≡◌, ◌++◌, drop, acts_text}
use Rattle.plan_form.proofs.printing.print_acts.Given as goal

-- the acts so far are printed
abbrev pub invariant-loop-act : goal.invariant-loop-act
invariant-loop-act l = l.out.items ++ acts_text (drop l.act-index l.acts) ≡ l.fn.out.items ++ acts_text l.acts
