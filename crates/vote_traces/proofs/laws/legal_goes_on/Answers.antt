use Rattle.vote_traces.proofs.WalkLemmas.{goes-on}
use Rattle.vote_traces.proofs.laws.legal_goes_on.Goals as goal

pub returns : goal.returns
returns c = goes-on
