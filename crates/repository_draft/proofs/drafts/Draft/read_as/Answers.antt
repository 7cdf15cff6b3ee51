use Rattle.repository_draft.proofs.Names.{◌≡◌, subst, sym, OnOk, ReadStep, unhold, read_as}
use Rattle.repository_draft.proofs.drafts.Draft.read_as.Goals as goal

pub returns-in-Answer : goal.returns-in-Answer
returns-in-Answer c =
    subst (λ (step : ReadStep). OnOk c.answer.result (c.answer.new.self ≡ read_as c.args.self.now.held (unhold c.args.at c.args.self.now) c.args.from c.args.at c.args.object step))
    (sym c.in-Answer.is) (c.answer.ensures c.args.self.now.held)
