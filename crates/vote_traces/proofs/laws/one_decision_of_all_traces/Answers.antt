use Rattle.vote_traces.proofs.ReplayLemmas.{no-two}
use Rattle.vote_traces.proofs.laws.one_decision_of_all_traces.Goals as goal

pub returns : goal.returns
returns c = no-two
