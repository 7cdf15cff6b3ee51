use Rattle.repository_laws.proofs.Logs.{tidy-kept, tidy-through, tidy-distinct, floor-through}
use Rattle.repository_laws.proofs.laws.tidy_stays.Goals as goal

pub returns-clause-kept : goal.returns-clause-kept
returns-clause-kept c = tidy-kept

pub returns-clause-through : goal.returns-clause-through
returns-clause-through c = tidy-through

pub returns-clause-distinct : goal.returns-clause-distinct
returns-clause-distinct c = tidy-distinct

pub returns-clause-no_floor : goal.returns-clause-no_floor
returns-clause-no_floor c = floor-through
