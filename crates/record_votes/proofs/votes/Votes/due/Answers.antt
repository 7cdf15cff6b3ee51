use Rattle.record_votes.proofs.Names.{ap, ◌∙◌, expiry, record_of, expiries-are, book}
use Rattle.record_votes.proofs.votes.Votes.due.Goals as goal

pub returns : goal.returns
returns c =
    expiries-are c.args.moment (book c.args.self.now) c.in_ok-due.due.items c.in_ok-due.ensures.order
    (λ q. c.in_ok-due.ensures.listed q ∙ ap (λ z. expiry c.args.moment z) (c.self.invariant.recorded q) ∙ ap (λ z. expiry c.args.moment (record_of (book z) q)) c.self.view_is)
