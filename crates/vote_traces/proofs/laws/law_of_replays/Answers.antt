use Rattle.vote_traces.proofs.ReplayLemmas.{replayed}
use Rattle.vote_traces.proofs.laws.law_of_replays.Goals as goal

pub returns : goal.returns
returns c = replayed
