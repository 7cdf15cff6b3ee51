use Rattle.std.proofs.Common.{◌-◌}
use Rattle.broker_core.proofs.SettleLemmas.{OnTheWay}
use Rattle.broker_core.proofs.owed.settle.Given as goal

-- what is left to settle leads where all leads
abbrev pub invariant-loop-step : goal.invariant-loop-step
invariant-loop-step l = OnTheWay l.initial.ledger l.ledger l.heard (l.most - l.step) l.most l.initial.effects.items l.effects.items
