use Rattle.vote_wire.proofs.CarryLemmas.{alone}
use Rattle.vote_wire.proofs.laws.entries_alone_decide.Goals as goal

pub returns : goal.returns
returns c = alone
