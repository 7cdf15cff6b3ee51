use Rattle.std.proofs.Common.{◌≡◌, reverse, take}
use Rattle.broker_ledger.specs.TakenUp as spec
use Rattle.broker_ledger.proofs.logs.take_up_all.Given as goal

-- the effects so far were taken up
abbrev pub invariant-loop-effect : goal.invariant-loop-effect
invariant-loop-effect l =
    (l.ledger ≡ spec.led l.initial.ledger (reverse (take l.effect-index l.effects)))
    × (l.first ≡ spec.other_at l.initial.ledger (reverse (take l.effect-index l.effects)))
