use Rattle.broker_ledger.proofs.Names.{◌≡◌, take, answers_given}
use Rattle.broker_ledger.proofs.givens.resumed.Given as goal

-- the run was given the answers so far
abbrev pub invariant-loop-given : goal.invariant-loop-given
invariant-loop-given l = (l.run.script ≡ l.script.lines) × (l.run.answers ≡ answers_given (take l.given-index l.answers))
