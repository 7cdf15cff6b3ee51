use Rattle.repository_core.proofs.Names.{◌∷◌, ap, ◌∙◌, Settle, is_commit, agree-expire}
use Rattle.repository_draft.specs.Effect.TheVariants as effect
use Rattle.repository_core.proofs.BookLemmas.{agree-same}
use Rattle.repository_core.proofs.books.Books.expire.Goals as goal

pub returns-clause-agree : goal.returns-clause-agree
returns-clause-agree g c = λ rest log t a unknown once.
    let b = c.args.self.now in let m = g.H.Histories.content b.histories in let s = c.args.stamp in let e = c.in_ok-settle.ensures in
    agree-same rest (effect.Decide s c.args.decision ∷ log) _ (Settle s (is_commit c.args.decision) ∷ m) _ b.records _ b.early.entries
    (e.grown ∙ ap (λ z. Settle s z ∷ m) c.is_commit.ensures) e.rest.0 e.rest.1
    (agree-expire log m b.records b.early.entries s t c.args.decision rest a unknown once)
