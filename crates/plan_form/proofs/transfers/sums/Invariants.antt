use Rattle.plan_form.proofs.Names.{◌≡◌, ◌++◌, ◌+◌, ◌*◌, ◌-◌, made_all, sums, round, last_step}
use Rattle.plan_form.proofs.transfers.sums.Given as goal

-- the statements so far, and those of the repositories that are left
abbrev pub invariant-loop-repository : goal.invariant-loop-repository
invariant-loop-repository l = l.part.items ++ made_all (sums (9 - l.repository) l.repository (2 * l.repository + 2) last_step) ≡ made_all round
