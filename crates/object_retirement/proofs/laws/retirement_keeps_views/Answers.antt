use Rattle.object_retirement.proofs.RetiredLemmas.{settle-kept, floor-kept, distinct-retired, viewed-retired}
use Rattle.object_retirement.proofs.laws.retirement_keeps_views.Goals as goal

pub returns-clause-settled : goal.returns-clause-settled
returns-clause-settled c = λ m at s. settle-kept m at m s

pub returns-clause-floor : goal.returns-clause-floor
returns-clause-floor c = λ m at. floor-kept m at m

pub returns-clause-distinct : goal.returns-clause-distinct
returns-clause-distinct c = λ m at d. distinct-retired m at m d

pub returns-clause-viewed : goal.returns-clause-viewed
returns-clause-viewed c = viewed-retired
