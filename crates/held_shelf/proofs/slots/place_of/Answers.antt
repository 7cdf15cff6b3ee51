use Rattle.std.proofs.Common.{arith}
use Rattle.held_shelf.proofs.SlotLemmas.{slot_nowhere}
use Rattle.held_shelf.proofs.slots.place_of.Goals as goal

pub returns : goal.returns
returns g c = slot_nowhere c.args.slots.now c.args.name (λ k d low. c.loop-index.invariant.past k d (omega (arith, low, c.loop-index-test.false)))
