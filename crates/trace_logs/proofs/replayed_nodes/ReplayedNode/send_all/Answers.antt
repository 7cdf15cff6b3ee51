use Rattle.std.proofs.IntoIterSteps.{All-taken}
use Rattle.trace_logs.proofs.Names.{filter, posts, leaves, all_posted, ap, ◌++◌, ◌∙◌}
use Rattle.trace_logs.proofs.ReplayedNodeLemmas.{sent-more}
use Rattle.trace_logs.proofs.replayed_nodes.ReplayedNode.send_all.Goals as goal

pub loop-out-preserved : goal.loop-out-preserved
loop-out-preserved c = (
  λ b x h fresh. sent-more c.args.self.now.node (leaves x.gated) c.loop-out.yielded c.in-Some.out (all_posted c.args.letters.now.items) (all_posted c.loop-out.letters.items) (all_posted c.send.new.letters.items)
      (c.loop-out.invariant.0 b x h fresh) (c.in_ok-send.ensures.sent b x h fresh),
  λ h. c.in_ok-send.ensures.in_range (c.loop-out.invariant.1 h),
)

pub returns-clause-sent : goal.returns-clause-sent
returns-clause-sent c b l h fresh =
    let it = c.into_iter-out-iterator in
    let all = All-taken it.result c.loop-out.yielded (c.next.new.self, (c.loop-out.out-iterator, c.loop-out.yielded_by, c.in-None.ensures.steps)) ∙ it.ensures.into_iter_gives.0 in
    c.loop-out.invariant.0 b l h fresh ∙ ap (λ outs. all_posted c.args.letters.now.items ++ posts c.args.self.now.node (filter (leaves l.gated) outs)) all
