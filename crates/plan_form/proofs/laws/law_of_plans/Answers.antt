use Rattle.plan_form.proofs.NoPlanLemmas.{fault_of_no_plan, one_plan}
use Rattle.plan_form.proofs.PlanTextLemmas.{printed_is_plan, plan_is_of_language}
use Rattle.plan_form.proofs.laws.law_of_plans.Goals as goal

pub returns-clause-one : goal.returns-clause-one
returns-clause-one c = one_plan

pub returns-clause-none : goal.returns-clause-none
returns-clause-none c = fault_of_no_plan

pub returns-clause-printed : goal.returns-clause-printed
returns-clause-printed c = printed_is_plan

pub returns-clause-read : goal.returns-clause-read
returns-clause-read c = plan_is_of_language
