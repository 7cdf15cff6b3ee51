use Rattle.archive_store.proofs.Names.{ap, sym, ◌∙◌, reverse, take, first_among}
use Rattle.std.specs.FinMap as finite
use Rattle.archive_store.proofs.JoinLemmas.{reverse-step}
use Rattle.archive_store.proofs.opens.first_among.Goals as goal

pub loop-mark-preserved : goal.loop-mark-preserved
loop-mark-preserved c =
    let i = c.loop-mark.mark-index in
    c.with_mark-first.ensures (reverse (take i c.args.marks.now)) c.loop-mark.invariant
    ∙ ap (first_among (λ p. finite.get c.args.settles.now p) c.args.at) (sym (reverse-step c.args.marks.now i c.mark-item.result c.loop-mark-test.true c.mark-item.is))
