use Rattle.vote_promise.proofs.ClauseLemmas.{ended-early}
use Rattle.vote_promise.proofs.laws.open_only_where_it_ended_early.Goals as goal

pub returns : goal.returns
returns c = ended-early
