use Rattle.run_media.proofs.Names.{All, take, IsOpen}
use Rattle.run_media.proofs.media.are_open.Given as goal

-- those so far
abbrev pub invariant-loop-opening : goal.invariant-loop-opening
invariant-loop-opening g l = All IsOpen (take l.opening-index l.openings)
