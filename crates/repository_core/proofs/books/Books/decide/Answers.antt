use Rattle.repository_core.proofs.Names.{[], ◌∷◌, ap, ◌∙◌, Settle, settled, is_commit, agree-decide}
use Rattle.repository_draft.specs.Effect.TheVariants as effect
use Rattle.repository_core.proofs.BookLemmas.{agree-same}
use Rattle.repository_core.proofs.books.Books.decide.Goals as goal

pub returns-clause-agree : goal.returns-clause-agree
returns-clause-agree g c = λ log t a unknown.
    let b = c.args.self.now in let m = g.H.Histories.content b.histories in let s = c.args.stamp in let e = c.in_ok-settle.ensures in
    agree-same [] (effect.Decide s c.args.decision ∷ log) _ (Settle s (is_commit c.args.decision) ∷ m) _ (settled b.records s c.args.decision) _ b.early.entries
    (e.grown ∙ ap (λ z. Settle s z ∷ m) c.is_commit.ensures) (c.restore.ensures.settled ∙ ap (λ z. settled z s c.args.decision) e.rest.0) e.rest.1
    (agree-decide log m b.records b.early.entries s t c.args.decision a unknown)
