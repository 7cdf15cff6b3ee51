use Rattle.std.proofs.Common.{◌+◌, reverse, sym, subst, ◌∙◌, ap}
use Rattle.repository_log.specs.Opening.{AreRecords}
use Rattle.trace_report.specs.Reports.{logs_by}
use Rattle.settle_report.specs.Ledgers.{AreLedgers}
use Rattle.settle_report.proofs.PieceLemmas.{ledger-more}
use Rattle.settle_report.proofs.ledgers.ledgers_of.Goals as goal

pub loop-below-preserved : goal.loop-below-preserved
loop-below-preserved c =
    let logs = logs_by c.args.logs.now in
    subst (AreLedgers (c.loop-below.below + 1) logs) (sym c.in_ok-push.ensures.items)
    (ledger-more c.loop-below.below logs c.loop-below.ledgers.items c.in_ok-records.records c.loop-below.invariant
    (subst (λ l. AreRecords (reverse l) c.in_ok-records.records) (c.log_of-log.ensures ∙ ap logs c.repository.ensures) c.in_ok-records.ensures.records))
