use Rattle.run_media.proofs.Names.{take, AreReady}
use Rattle.run_media.proofs.refusals.first_refusal.Given as goal

-- those so far can go on
abbrev pub invariant-loop-place : goal.invariant-loop-place
invariant-loop-place g l = AreReady l.plan 0 (take l.place l.openings)
