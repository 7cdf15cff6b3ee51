use Rattle.broker_ledger.proofs.Names.{◌≡◌, reverse, take, fresh_ledger, led, counts_led}
use Rattle.broker_ledger.proofs.logs.counted_effects.Given as goal

abbrev pub invariant-loop-effect : goal.invariant-loop-effect
invariant-loop-effect l = record {
  ledger : l.ledger ≡ led (fresh_ledger l.fn.number l.fn.run l.fn.acts.items) (reverse (take l.effect-index l.effects));
  flags : reverse l.flags.items ≡ counts_led (fresh_ledger l.fn.number l.fn.run l.fn.acts.items) (reverse (take l.effect-index l.effects));
}
