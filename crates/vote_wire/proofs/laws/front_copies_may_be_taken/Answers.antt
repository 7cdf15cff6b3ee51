use Rattle.vote_wire.proofs.CarryLemmas.{takes}
use Rattle.vote_wire.proofs.laws.front_copies_may_be_taken.Goals as goal

pub returns : goal.returns
returns c = λ b h s sent marks n number rest k. takes b h s sent marks k n number rest
