use Rattle.vote_courier.proofs.PlaceLemmas.{goes-kept, turns-kept}
use Rattle.vote_courier.proofs.laws.polls_stay_legal.Goals as goal

pub returns-clause-goes : goal.returns-clause-goes
returns-clause-goes c = goes-kept

pub returns-clause-turns : goal.returns-clause-turns
returns-clause-turns c = turns-kept
