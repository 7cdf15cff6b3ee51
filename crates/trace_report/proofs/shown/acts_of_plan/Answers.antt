use Rattle.trace_report.proofs.Names.{IfOk, Every, ActSpec, IsScript, kept, act_told, part_at, ◌≡◌, ap, ◌∙◌, map, subst, sym}
use Rattle.trace_report.proofs.OwnLemmas.{plan-scripts}
use Rattle.trace_report.proofs.ShownLemmas.{acts-are}
use Rattle.trace_report.proofs.shown.acts_of_plan.Goals as goal

pub told_acts-requires : goal.told_acts-requires
told_acts-requires c = subst (Every (λ (a : ActSpec). IsScript a.script.lines)) (sym c.as_slice.ensures) (plan-scripts c.args.plan.now c.requires)

pub returns : goal.returns
returns c = λ logs begun.
    subst (λ z. IfOk c.told_acts.result (λ shown. shown.items ≡ z))
    (ap (map (λ (a : ActSpec). act_told a (part_at a.index (kept c.args.begun.items)))) c.as_slice.ensures ∙ acts-are c.args.plan.now c.requires logs (kept c.args.begun.items) begun)
    c.told_acts.ensures
