use Rattle.plan_form.proofs.MadeLemmas.{made_is_plan}
use Rattle.plan_form.proofs.laws.law_of_made_plans.Goals as goal

pub returns : goal.returns
returns c = made_is_plan
