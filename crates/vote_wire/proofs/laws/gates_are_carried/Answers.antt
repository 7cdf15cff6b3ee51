use Rattle.vote_wire.proofs.CarryLemmas.{gate-carried}
use Rattle.vote_wire.proofs.laws.gates_are_carried.Goals as goal

pub returns : goal.returns
returns c = gate-carried
