use Rattle.wire_core.proofs.ChangeLemmas.{down-more}
use Rattle.wire_core.proofs.wires.Wire.down.Goals as goal

pub invariant_of-self-2 : goal.invariant_of-self-2
invariant_of-self-2 g c =
    down-more _ _ _ _ _ _ _ _ _ c.self.invariant c.if-self.false c.args.node c.args.cause _ c.in_ok-add.ensures.ok (rw (← c.self.view_is) at c.requires.up) (rw (← c.self.view_is) at c.requires.none) c.shut.ensures
