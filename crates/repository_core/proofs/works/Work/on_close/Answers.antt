use Rattle.repository_core.proofs.Names.{sym, ap, ◌∙◌, Some, settle_of, now, unknown-unsettled}
use Rattle.repository_core.proofs.works.Work.on_close.Goals as goal

pub close-requires-clause-unsettled : goal.close-requires-clause-unsettled
close-requires-clause-unsettled g c =
    let h = c.args.self.now.draft in
    ap (λ m. settle_of m c.args.stamp) c.requires.agreed.marked
    ∙ unknown-unsettled (now h) c.args.stamp c.in-Some-Unknown.field-0-0 (sym (c.record.ensures (now h) c.requires.agreed) ∙ c.in-Some-Unknown.is ∙ ap (λ x. Some x) c.in-Some-Unknown.field-0-is)
