use Rattle.run_media.proofs.Names.{◌≡◌, ◌==◌, List, length, true, ap, sym, subst, ◌∙◌, reverse, None, arith, nat_tests, ActSpec, resume_fault, reading, Scripted, tasks, acts_of}
use Rattle.broker_core.specs.Ledgers.{AreBrokerActs}
use Rattle.world_core.proofs.PlanRangeLemmas.{plan-own_acts}
use Rattle.run_media.proofs.OpeningLemmas.{blank-refuses, reads-own, refuses-err}
use Rattle.run_media.proofs.refusals.broker_refusal.Goals as goal

pub open-requires-clause-acts : goal.open-requires-clause-acts
open-requires-clause-acts c =
    let is : c.as_slice-2.result.now ≡ acts_of c.args.number c.args.plan.now.acts = c.as_slice-2.ensures.value ∙ (c.in-Ok.ensures ∙ ap (acts_of c.args.number) c.as_slice.ensures) in
    subst AreBrokerActs (sym is) (plan-own_acts c.args.plan.now c.args.number c.requires.plan)

pub returns-then-is_empty : goal.returns-then-is_empty
returns-then-is_empty c =
    let blank : (length c.args.effects.now == 0) ≡ true = sym c.is_empty.ensures ∙ c.if-is_empty.true in
    blank-refuses c.args.plan.now c.args.number c.args.effects.now c.requires.plan (grind (arith, nat_tests))

pub returns-in-Ok-open : goal.returns-in-Ok-open
returns-in-Ok-open c =
    let plan = c.args.plan.now in
    let s = reading plan.acts in
    let is : c.as_slice-2.result.now ≡ acts_of c.args.number plan.acts = c.as_slice-2.ensures.value ∙ (c.in-Ok.ensures ∙ ap (acts_of c.args.number) c.as_slice.ensures) in
    let scripted = subst (Scripted s) (sym is) (reads-own plan c.args.number c.requires.plan) in
    subst (λ (acts : List ActSpec). resume_fault s c.args.number plan.run (tasks acts) (reverse c.args.effects.now) ≡ None) is (c.in-Ok-open.ensures.opens s scripted)

pub returns : goal.returns
returns c =
    let plan = c.args.plan.now in
    let s = reading plan.acts in
    let is : c.as_slice-2.result.now ≡ acts_of c.args.number plan.acts = c.as_slice-2.ensures.value ∙ (c.in-Ok.ensures ∙ ap (acts_of c.args.number) c.as_slice.ensures) in
    let scripted = subst (Scripted s) (sym is) (reads-own plan c.args.number c.requires.plan) in
    refuses-err plan c.args.number c.as_slice-2.result.now c.args.effects.now c.in-Err.fault c.refusal_for.result is c.refusal_for.ensures (c.in-Err.ensures.opens s scripted)
