use Rattle.vote_traces.proofs.ReplayLemmas.{two-decided}
use Rattle.vote_traces.proofs.laws.law_of_decisions.Goals as goal

pub returns : goal.returns
returns c = two-decided
