use Rattle.world_facts.proofs.AnyNodes.{any-trace}
use Rattle.world_facts.proofs.laws.facts_of_any_trace.Goals as goal

pub returns : goal.returns
returns c = any-trace
