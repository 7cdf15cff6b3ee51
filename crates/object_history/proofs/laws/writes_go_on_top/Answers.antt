use Rattle.object_history.proofs.ScanLemmas.{puts-below, put-reach}
use Rattle.object_history.proofs.ReachLemmas.{above-reaches, above-origin}
use Rattle.object_history.proofs.laws.writes_go_on_top.Goals as goal

pub returns-clause-versions : goal.returns-clause-versions
returns-clause-versions c = puts-below

pub returns-clause-reach : goal.returns-clause-reach
returns-clause-reach c = put-reach

pub returns-clause-every_reach : goal.returns-clause-every_reach
returns-clause-every_reach c = above-reaches

pub returns-clause-origin : goal.returns-clause-origin
returns-clause-origin c = above-origin
