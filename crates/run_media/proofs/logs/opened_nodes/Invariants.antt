use Rattle.run_media.proofs.Names.{◌≡◌, take, opened_from}
use Rattle.run_media.proofs.logs.opened_nodes.Given as goal

-- those so far
abbrev pub invariant-loop-place : goal.invariant-loop-place
invariant-loop-place g l = l.opened.items ≡ opened_from l.plan 0 (take l.place l.openings)
