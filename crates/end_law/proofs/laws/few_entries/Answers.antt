use Rattle.end_law.proofs.Steps.{entries-few}
use Rattle.end_law.proofs.laws.few_entries.Goals as goal

pub returns : goal.returns
returns c = entries-few
