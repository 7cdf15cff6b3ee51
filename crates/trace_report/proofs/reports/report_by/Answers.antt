use Rattle.trace_report.proofs.Names.{report_text, count_of, Open, logs_by, ◌≡◌, ap, ◌∙◌, subst}
use Rattle.trace_report.proofs.TextLemmas.{report-is}
use Rattle.trace_report.proofs.reports.report_by.Goals as goal

pub returns : goal.returns
returns c =
    let logs = logs_by c.args.logs.now in
    let acts = c.in_ok-acts.ensures logs c.in_ok-begun.ensures in
    record {
      text = subst (λ r. c.in_ok-text.text ≡ report_text r)
          (report-is c.args.plan.now logs c.args.trace.now c.of.result c.of-3.result (c.of.ensures ∙ acts) (c.of-3.ensures ∙ c.in_ok-downs.ensures)
          c.of-2.result c.wire_of.result (c.of-2.ensures ∙ c.in_ok-finals.ensures) c.wire_of.ensures)
          c.in_ok-text.ensures;
      unfinished = c.unfinished_of-unfinished.ensures ∙ (ap (count_of Open) c.as_slice.ensures.value ∙ ap (count_of Open) acts);
    }
