use Rattle.std.proofs.Common.{◌≡◌, ◌∙◌, IfOk, length, subst}
use Rattle.trace_report.proofs.TraceLemmas.{logs-found, plan-acts}
use Rattle.trace_report.specs.Reports.{logs_by}
use Rattle.settle_report.specs.Texts.{IsSettleText, all_open}
use Rattle.settle_report.proofs.reports.settle_report.Goals as goal

pub logs-requires-clause-acts : goal.logs-requires-clause-acts
logs-requires-clause-acts c = plan-acts c.args.plan.now c.as_slice.result.now c.requires.whole c.as_slice.ensures

pub returns-clause-text : goal.returns-clause-text
returns-clause-text c =
    let plan = c.args.plan.now in
    let t = c.args.trace.now in
    let found = logs-found plan t c.as_slice.result.now c.requires.whole c.as_slice.ensures c.as_slice-2.result.now (λ script scripted. c.as_slice-2.ensures.value ∙ c.in_ok-logs.ensures script scripted) in
    subst (λ f. IfOk c.report_by.result (λ r. IsSettleText plan (logs_by t.opened) f t r.text)) found c.report_by.ensures.text

pub returns-clause-undecided : goal.returns-clause-undecided
returns-clause-undecided c =
    let plan = c.args.plan.now in
    let t = c.args.trace.now in
    let found = logs-found plan t c.as_slice.result.now c.requires.whole c.as_slice.ensures c.as_slice-2.result.now (λ script scripted. c.as_slice-2.ensures.value ∙ c.in_ok-logs.ensures script scripted) in
    subst (λ f. IfOk c.report_by.result (λ r. r.undecided ≡ length (all_open plan f))) found c.report_by.ensures.undecided
