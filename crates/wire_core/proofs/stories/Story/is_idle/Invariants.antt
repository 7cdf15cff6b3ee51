use Rattle.wire_core.proofs.NodeMaps.{AreLeft}
use Rattle.wire_core.proofs.stories.Story.is_idle.Given as goal

abbrev pub invariant-loop-node : goal.invariant-loop-node
invariant-loop-node l = AreLeft l.self.last l.self.ticks l.self.nodes.entries l.node-iterator
