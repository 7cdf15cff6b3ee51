use Rattle.repository_core.proofs.Names.{ap, ◌∙◌, expiry, expiries-are}
use Rattle.repository_core.proofs.books.Books.hear.Goals as goal

pub returns-clause-due : goal.returns-clause-due
returns-clause-due g c = λ log a.
    expiries-are c.args.moment log c.in_ok-due.due.items c.in_ok-due.ensures.order (λ q. c.in_ok-due.ensures.listed q ∙ ap (λ z. expiry c.args.moment z) (a.recorded q))
