use Rattle.vote_wire.proofs.CarryLemmas.{left-carried, down-carried}
use Rattle.vote_wire.proofs.laws.copies_are_carried.Goals as goal

pub returns-clause-left : goal.returns-clause-left
returns-clause-left c = λ b h s sent marks e l k. left-carried b h s sent marks k e l

pub returns-clause-down : goal.returns-clause-down
returns-clause-down c = λ b h s sent marks n cause k known. down-carried b h s sent marks k n cause known
