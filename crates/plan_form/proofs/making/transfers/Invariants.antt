use Rattle.plan_form.proofs.Names.{◌≡◌, ◌++◌, ◌+◌, ◌-◌, transfers}
use Rattle.plan_form.proofs.making.transfers.Given as goal

-- the transfers so far, and those that are left
abbrev pub invariant-loop-before : goal.invariant-loop-before
invariant-loop-before l = l.acts.items ++ transfers (l.count - l.before) l.draws.state (l.before + 1) ≡ transfers l.count l.seed 1
