use Rattle.trace_report.proofs.Names.{option_map, BegunTry, kept_act, kept_try, begun_at, try_told, ap, ◌∙◌, map}
use Rattle.trace_report.proofs.ShownLemmas.{told-of}
use Rattle.trace_report.proofs.shown.act_of.Goals as goal

pub returns-in_ok-tries-in-Some : goal.returns-in_ok-tries-in-Some
returns-in_ok-tries-in-Some c =
    told-of c.args.act.now c.in-Some.begun.now c.in_ok-tries-in-Some.tries.items c.act_with-in-Some.result (begun_at c.args.begun.now.entries c.args.act.now.index) (ap (option_map kept_act) c.in-Some.ensures.value)
    (c.in_ok-tries-in-Some.ensures ∙ ap (map (λ (t : BegunTry). try_told c.args.act.now.script.lines (kept_try t))) c.as_slice.ensures.value) c.act_with-in-Some.ensures
