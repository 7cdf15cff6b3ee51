use Rattle.wire_core.proofs.ChangeLemmas.{learn-more}
use Rattle.wire_core.proofs.wires.Wire.learn.Goals as goal

pub invariant_of-self-2 : goal.invariant_of-self-2
invariant_of-self-2 g c =
    learn-more _ _ _ _ _ _ _ _ _ c.self.invariant c.if-self.false c.args.node c.args.stamp c.args.committed c.in_ok-add.ensures.ok (rw (← c.self.view_is) at c.requires.up) c.requires.repository (rw (← c.self.view_is) at c.requires.stands) (rw (← c.self.view_is) at c.requires.new)
