use Rattle.object_retirement.proofs.ChainLemmas.{chain-view, last-stays}
use Rattle.object_retirement.proofs.laws.answers_last.Goals as goal

pub returns-clause-viewed : goal.returns-clause-viewed
returns-clause-viewed c = chain-view

pub returns-clause-newest : goal.returns-clause-newest
returns-clause-newest c = last-stays
