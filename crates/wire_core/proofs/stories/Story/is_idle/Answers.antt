use Rattle.std.proofs.Common.{subst, sym, ◌∙◌}
use Rattle.wire_core.proofs.NodeMaps.{AreLeft, one-idle}
use Rattle.wire_core.proofs.stories.Story.is_idle.Goals as goal

pub loop-node-preserved : goal.loop-node-preserved
loop-node-preserved c =
    let s = c.args.self.now in
    one-idle s.last s.ticks s.nodes.entries c.next.new.self c.in-Some.node.now c.in-Some._flags.now (subst (λ left. AreLeft s.last s.ticks s.nodes.entries left) c.in-Some.ensures.steps c.loop-node.invariant)
    (sym c.is_idle_at.ensures ∙ c.if-not-is_idle_at.false)
