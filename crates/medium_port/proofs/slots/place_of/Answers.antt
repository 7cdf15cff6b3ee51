use Rattle.std.proofs.Common.{arith}
use Rattle.medium_port.proofs.SlotLemmas.{slot_nowhere}
use Rattle.medium_port.proofs.slots.place_of.Goals as goal

pub returns : goal.returns
returns c = slot_nowhere c.args.slots.now c.args.name (λ k d low. c.loop-index.invariant.past k d (omega (arith, low, c.loop-index-test.false)))
