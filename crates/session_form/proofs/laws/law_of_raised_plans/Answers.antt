use Rattle.session_form.proofs.HeightLemmas.{all-above}
use Rattle.session_form.proofs.laws.law_of_raised_plans.Goals as goal

pub returns : goal.returns
returns c h plan = all-above h.clock plan.acts
