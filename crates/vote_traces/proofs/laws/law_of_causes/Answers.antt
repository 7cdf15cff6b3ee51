use Rattle.vote_traces.proofs.CauseLemmas.{decisions-caused}
use Rattle.vote_traces.proofs.laws.law_of_causes.Goals as goal

pub returns : goal.returns
returns c = decisions-caused
