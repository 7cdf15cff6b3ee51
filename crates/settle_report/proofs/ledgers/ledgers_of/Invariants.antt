use Rattle.trace_report.specs.Reports.{logs_by}
use Rattle.settle_report.specs.Ledgers.{AreLedgers}
use Rattle.settle_report.proofs.ledgers.ledgers_of.Given as goal

abbrev pub invariant-loop-below : goal.invariant-loop-below
invariant-loop-below l = AreLedgers l.below (logs_by l.logs) l.ledgers.items
