use Rattle.world_facts.specs.NodeRules.{node_turns, node_facts}
use Rattle.world_facts.proofs.NodeLaws.{node-laws, past-laws}
use Rattle.world_facts.proofs.Openings.{legal-lives}
use Rattle.world_facts.proofs.laws.facts_of_whole_lives.Goals as goal

pub returns : goal.returns
returns c script = legal-lives script (node_turns script) (node_facts script) (node-laws script) (past-laws script)
