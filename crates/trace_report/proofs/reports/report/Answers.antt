use Rattle.trace_report.proofs.Names.{◌≡◌, ◌∙◌, subst, IfOk, open_by, run_text_by}
use Rattle.trace_report.proofs.TraceLemmas.{plan-acts, logs-found}
use Rattle.trace_report.proofs.reports.report.Goals as goal

pub logs-requires-clause-acts : goal.logs-requires-clause-acts
logs-requires-clause-acts c = plan-acts c.args.plan.now c.as_slice.result.now c.requires.whole c.as_slice.ensures

pub returns : goal.returns
returns c =
    let found =
    logs-found c.args.plan.now c.args.trace.now c.as_slice.result.now c.requires.whole c.as_slice.ensures c.as_slice-2.result.now (λ script scripted. c.as_slice-2.ensures.value ∙ c.in_ok-logs.ensures script scripted) in
    record {
      text = subst (λ f. IfOk c.report_by.result (λ r. r.text ≡ run_text_by c.args.plan.now f c.args.trace.now)) found c.report_by.ensures.text;
      unfinished = subst (λ f. IfOk c.report_by.result (λ r. r.unfinished ≡ open_by c.args.plan.now f)) found c.report_by.ensures.unfinished;
    }
