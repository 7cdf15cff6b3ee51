use Rattle.trace_report.proofs.Names.{flat_map, down_text, count_of, Open, last_of, load_line, logs_by, sum_in, tries_in, ap, ◌++◌, ◌∙◌, length}
use Rattle.trace_report.proofs.TextLemmas.{load-is}
use Rattle.trace_report.proofs.summaries.summary_by.Goals as goal

pub returns : goal.returns
returns c =
    let logs = logs_by c.args.logs.now in
    let acts = c.in_ok-acts.ensures logs c.in_ok-begun.ensures in
    let counted = c.unfinished_of-unfinished.ensures ∙ ap (count_of Open) c.as_slice-2.ensures.value in
    record {
      text = c.of.ensures
          ∙ load-is c.args.plan.now logs c.args.trace.now c.in_ok-acts.acts.items c.in_ok-downs.downs.items acts c.in_ok-downs.ensures
          c.args.seed (length c.as_slice-3.result.now) c.unfinished_of-unfinished.result c.in_ok-sum.sum c.new-out.result.items c.push_load.new.out.items c.push_acts.new.out.items c.push_sum.new.out.items c.push_downs.new.out.items
          c.new-out.ensures.items (c.in_ok-push_load.ensures ∙ ap (λ n. c.new-out.result.items ++ load_line c.args.seed n) c.saturating_sub.ensures) c.in_ok-push_acts.ensures c.in_ok-push_sum.ensures
          (c.in_ok-push_downs.ensures ∙ ap (λ ds. c.push_sum.new.out.items ++ flat_map down_text ds) c.as_slice-4.ensures.value)
          (ap length c.as_slice-3.ensures) counted (c.in_ok-sum.ensures ∙ ap (λ as'. sum_in (last_of (tries_in (last_of as')))) c.as_slice.ensures.value);
      unfinished = counted ∙ ap (count_of Open) acts;
    }
