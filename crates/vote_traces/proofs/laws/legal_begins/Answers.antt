use Rattle.vote_traces.proofs.WalkLemmas.{begins-legal}
use Rattle.vote_traces.proofs.laws.legal_begins.Goals as goal

pub returns : goal.returns
returns c = begins-legal
