use Rattle.vote_wire.proofs.CarryLemmas.{idles, idle-empty, tick-carried, nowhere}
use Rattle.vote_wire.proofs.laws.ticks_may_pass.Goals as goal

pub returns-clause-idle : goal.returns-clause-idle
returns-clause-idle c = λ h s sent marks k. idles nowhere h s sent marks k

pub returns-clause-only : goal.returns-clause-only
returns-clause-only c = λ h s sent marks n k. idle-empty nowhere h s sent marks k n

pub returns-clause-ticks : goal.returns-clause-ticks
returns-clause-ticks c = λ b h s sent marks moment k. tick-carried b h s sent marks k moment
