use Rattle.trace_logs.specs.ReplayedNodes.{IsSound}
use Rattle.trace_logs.proofs.EndLemmas.{replayed-more, every-more}
use Rattle.trace_logs.proofs.replays.opened_nodes.Goals as goal

pub loop-one-preserved : goal.loop-one-preserved
loop-one-preserved c = (
  λ b run acts scripted. replayed-more b c.args.start c.args.opened.now c.loop-one.one-index c.one-item.result c.in_ok-node.node c.loop-one.replayed.items c.push.new.self.items c.loop-one-test.true c.one-item.is
      (c.loop-one.invariant.0 b run acts scripted) c.in_ok-node.ensures.node (c.in_ok-node.ensures.lives b run acts scripted) c.in_ok-push.ensures.items,
  every-more IsSound c.in_ok-node.node c.loop-one.replayed.items c.push.new.self.items c.loop-one.invariant.1 c.in_ok-node.ensures.sound c.in_ok-push.ensures.items,
)
