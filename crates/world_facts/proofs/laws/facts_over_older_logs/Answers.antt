use Rattle.world_facts.proofs.EarlierLemmas.{older-facts}
use Rattle.world_facts.proofs.laws.facts_over_older_logs.Goals as goal

pub returns : goal.returns
returns c = older-facts
