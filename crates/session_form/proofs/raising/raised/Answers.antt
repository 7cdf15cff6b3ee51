use Rattle.std.proofs.Common.{List, ap, map, subst, sym, ◌∙◌, ◌+◌}
use Rattle.value_form.specs.declared.acts.ActSpec.{ActSpec}
use Rattle.plan_form.specs.PlanTexts.{CanRun}
use Rattle.session_form.specs.Heights.{raised_act}
use Rattle.session_form.proofs.HeightLemmas.{raised-runs}
use Rattle.session_form.proofs.raising.raised.Goals as goal

pub returns-clause-runs : goal.returns-clause-runs
returns-clause-runs c =
    let plan = c.args.plan in
    let acts = c.of.ensures ∙ (c.raised_acts.ensures ∙ ap (λ (l : List ActSpec). map (raised_act c.args.heights.clock) l) c.into_vec.ensures) in
    subst (λ (l : List ActSpec). CanRun (record { run = c.args.heights.run + 1; repositories = plan.repositories; brokers = plan.brokers; acts = l })) (sym acts)
    (raised-runs c.args.heights plan c.requires.room c.requires.plan)
