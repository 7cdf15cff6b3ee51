use Rattle.std.proofs.Common.{◌≡◌, take}
use Rattle.broker_ledger.proofs.ledgers.copy_acts.Given as goal

-- the acts so far
abbrev pub invariant-loop-act : goal.invariant-loop-act
invariant-loop-act l = l.copies.items ≡ take l.act-index l.acts
