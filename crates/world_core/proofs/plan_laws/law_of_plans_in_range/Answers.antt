use Rattle.plan_form.proofs.PlanRangeLemmas.{whole-names}
use Rattle.world_core.proofs.OneReading.{own-reading}
use Rattle.world_core.proofs.PlanRangeLemmas.{plan-AreBrokerActs, plan-own_acts, whole-scripts}
use Rattle.world_core.proofs.plan_laws.law_of_plans_in_range.Goals as goal

pub returns-clause-acts : goal.returns-clause-acts
returns-clause-acts c = plan-AreBrokerActs

pub returns-clause-own : goal.returns-clause-own
returns-clause-own c = plan-own_acts

pub returns-clause-names : goal.returns-clause-names
returns-clause-names c = whole-names

pub returns-clause-scripts : goal.returns-clause-scripts
returns-clause-scripts c = whole-scripts

pub returns-clause-read : goal.returns-clause-read
returns-clause-read c = own-reading
