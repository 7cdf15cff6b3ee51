use Rattle.repository_core.proofs.Names.{[], ◌∷◌, ap, ◌∙◌, Settle, settled, as_decision, agree-learn}
use Rattle.repository_draft.specs.Effect.TheVariants as effect
use Rattle.repository_core.proofs.BookLemmas.{agree-same}
use Rattle.repository_core.proofs.books.Books.learn.Goals as goal

pub returns-clause-agree : goal.returns-clause-agree
returns-clause-agree g c = λ log a.
    let b = c.args.self.now in let m = g.H.Histories.content b.histories in let s = c.args.stamp in let e = c.in_ok-settle.ensures in
    agree-same [] (effect.Learn s c.args.committed ∷ log) _ (Settle s c.args.committed ∷ m) _ (settled b.records s (as_decision c.args.committed)) _ b.early.entries
    e.grown (c.restore.ensures.settled ∙ ap (λ z. settled z s c.learned.result) e.rest.0 ∙ ap (λ z. settled b.records s z) c.learned.ensures) e.rest.1
    (agree-learn log m b.records b.early.entries s c.args.committed a c.requires.unsettled)
