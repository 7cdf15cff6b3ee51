use Rattle.run_volumes.proofs.Names.{take, AreOpen}
use Rattle.run_volumes.proofs.standings.stand_of.Given as goal

-- those so far were opened
abbrev pub invariant-loop-opening : goal.invariant-loop-opening
invariant-loop-opening g l = AreOpen (take l.opening-index l.openings)
