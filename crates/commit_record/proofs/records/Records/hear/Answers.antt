use Rattle.std.proofs.Common.{ap, ◌∙◌}
use Rattle.std.specs.FinMap as finite
use Rattle.commit_record.specs.States.{listed_at}
use Rattle.commit_record.proofs.DueLemmas.{all_settled, all_heard}
use Rattle.commit_record.proofs.records.Records.hear.Goals as goal

pub returns-clause-heard : goal.returns-clause-heard
returns-clause-heard c = λ q.
    let old = c.args.self.now in
    let items = c.deref-stamp-items.result.now in
    ap (λ m. finite.get m q) (all_settled c.loop-stamp.self old items c.loop-stamp.stamp-index c.loop-stamp-test.false c.loop-stamp.invariant)
    ∙ all_heard c.args.moment old items q (ap (λ l. listed_at l q) c.deref-stamp-items.ensures.value ∙ c.in_ok-due.ensures.listed q)
