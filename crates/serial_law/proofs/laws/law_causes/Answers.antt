use Rattle.serial_law.proofs.AddedEnds.{caused}
use Rattle.serial_law.proofs.Traces.{place-causes, place-limits, place-spent}
use Rattle.serial_law.proofs.laws.law_causes.Goals as goal

pub returns-clause-ends : goal.returns-clause-ends
returns-clause-ends c = place-causes

pub returns-clause-spent : goal.returns-clause-spent
returns-clause-spent c = place-spent

pub returns-clause-limits : goal.returns-clause-limits
returns-clause-limits c = place-limits

pub returns-clause-added : goal.returns-clause-added
returns-clause-added c = caused
