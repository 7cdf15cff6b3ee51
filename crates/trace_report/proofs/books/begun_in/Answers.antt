use Rattle.trace_report.proofs.Names.{act_parts, logs_by, ap, ◌∙◌, map, arith}
use Rattle.trace_report.proofs.BookLemmas.{begun-all}
use Rattle.trace_report.proofs.books.begun_in.Goals as goal

pub returns : goal.returns
returns c =
    let past = c.loop-count-test.false in
    let most = c.loop-count.auto.count-end in
    c.loop-count.invariant ∙ ap (map act_parts) (begun-all c.args.plan.now (logs_by c.args.logs.now) c.args.plan.now.brokers c.loop-count.count (omega (arith, past, most)))
