use Rattle.vote_courier.proofs.StationLemmas.{begins}
use Rattle.vote_courier.proofs.laws.couriers_begin_legal.Goals as goal

pub returns : goal.returns
returns c = begins
