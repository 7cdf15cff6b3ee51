use Rattle.trace_logs.proofs.Names.{OnOk, filter, posts, leaves, all_effects, gated_life, all_posted, refl, ap, subst, ◌≡◌, ◌++◌, ◌∙◌}
use Rattle.trace_logs.proofs.ReplayedNodeLemmas.{gated-lives}
use Rattle.trace_logs.proofs.replayed_nodes.ReplayedNode.gate.Goals as goal

pub returns-clause-sent : goal.returns-clause-sent
returns-clause-sent c b l h =
    subst (λ outs. OnOk c.send_all.result (all_posted c.send_all.new.letters.items ≡ all_posted c.args.letters.now.items ++ posts c.args.self.now.node (filter (leaves (all_effects l)) outs)))
    (ap (λ v. v.items) c.replace-outs.ensures.value ∙ h.outs)
    (c.send_all.ensures.sent b (gated_life l) (gated-lives b c.args.self.now _ l h refl refl c.in_ok-append.ensures.items c.in_ok-append.ensures.other_items (ap (λ v. v.items) c.replace-outs.ensures.after ∙ c.new.ensures.items)) refl)
