use Rattle.trace_logs.proofs.Names.{append-nil, knows, leaves, StandsFor, sym, ap, subst, ◌∙◌, ◌++◌, not}
use Rattle.trace_logs.proofs.replayed_nodes.ReplayedNode.leaves.Goals as goal

pub returns-in-Ask : goal.returns-in-Ask
returns-in-Ask c b l h fresh =
    let e = h.gated ∙ sym (append-nil l.gated) ∙ ap (λ z. l.gated ++ z) (sym fresh) in
    ap not (c.knows.ensures b c.args.self.now.node l.mind (subst (λ z. StandsFor b c.args.self.now.node z l.mind c.args.self.now.core) (sym (c.as_slice.ensures.value ∙ e)) h.core)
    ∙ ap (λ z. knows z c.in-Ask.stamp) (c.as_slice.ensures.value ∙ h.gated))
    ∙ ap (λ m. leaves l.gated (record c.args.out.now { message = m })) (sym c.in-Ask.is)
