use Rattle.archive_store.proofs.Names.{sym, ◌∙◌, ◌+◌, drop, refl}
use Rattle.archive_store.proofs.JoinLemmas.{drop-item, drop-end}
use Rattle.archive_store.proofs.HolderLemmas.{has-here, has-on, has-nowhere}
use Rattle.archive_store.proofs.holders.has_put.Goals as goal

pub returns-then-is_put : goal.returns-then-is_put
returns-then-is_put c =
    let i = c.loop-mark.mark-index in
    let log = c.args.log.now in
    sym (c.loop-mark.invariant ∙ has-here c.args.object c.args.start c.mark-item.result (drop (i + 1) log) (drop i log) c.is_put.result (drop-item log i (i + 1) c.mark-item.result refl c.loop-mark-test.true c.mark-item.is) c.is_put.ensures c.if-is_put.true)

pub loop-mark-preserved : goal.loop-mark-preserved
loop-mark-preserved c =
    let i = c.loop-mark.mark-index in
    let log = c.args.log.now in
    c.loop-mark.invariant ∙ has-on c.args.object c.args.start c.mark-item.result (drop (i + 1) log) (drop i log) c.is_put.result (drop-item log i (i + 1) c.mark-item.result refl c.loop-mark-test.true c.mark-item.is) c.is_put.ensures c.if-is_put.false

pub returns : goal.returns
returns c = sym (c.loop-mark.invariant ∙ has-nowhere c.args.object c.args.start (drop c.loop-mark.mark-index c.args.log.now) (drop-end c.args.log.now c.loop-mark.mark-index c.loop-mark-test.false))
