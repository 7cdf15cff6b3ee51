use Rattle.end_law.proofs.Learns.{learns-few}
use Rattle.end_law.proofs.laws.few_learns.Goals as goal

pub returns : goal.returns
returns c = learns-few
