use Rattle.world_facts.proofs.OldChains.{chain-of, never-retired}
use Rattle.world_facts.proofs.laws.histories_are_a_chain.Goals as goal

pub returns-clause-repositories : goal.returns-clause-repositories
returns-clause-repositories c = chain-of

pub returns-clause-brokers : goal.returns-clause-brokers
returns-clause-brokers c = never-retired
