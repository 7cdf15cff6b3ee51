use Rattle.trace_logs.proofs.Names.{all_posted, append-nil, cond, map-append, posts, ap, sym, [], ◌∷◌, ◌++◌, ◌∙◌}
use Rattle.trace_logs.specs.Letters.{posted}
use Rattle.trace_logs.proofs.replayed_nodes.ReplayedNode.send.Goals as goal

-- an Ask that the log answers stays
pub returns-then-not-leaves-clause-sent : goal.returns-then-not-leaves-clause-sent
returns-then-not-leaves-clause-sent c b l h fresh =
    let before = all_posted c.args.letters.now.items in
    sym (append-nil before)
    ∙ ap (λ test. before ++ posts c.args.self.now.node (cond test (c.args.out ∷ []) [])) (sym c.if-not-leaves.true ∙ c.leaves.ensures b l h fresh)

pub returns-clause-sent : goal.returns-clause-sent
returns-clause-sent c b l h fresh =
    let before = all_posted c.args.letters.now.items in
    ap all_posted c.in_ok-push.ensures.items
    ∙ map-append posted c.args.letters.now.items _
    ∙ ap (λ test. before ++ posts c.args.self.now.node (cond test (c.args.out ∷ []) [])) (sym c.if-not-leaves.false ∙ c.leaves.ensures b l h fresh)
