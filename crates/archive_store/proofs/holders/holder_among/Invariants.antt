use Rattle.archive_store.proofs.Names.{◌≡◌, ◌≤◌, length, map, drop, None, holder_of}
use Rattle.archive_store.proofs.holders.holder_among.Given as goal

-- none from this place on has it
abbrev pub invariant-loop-place : goal.invariant-loop-place
invariant-loop-place l = (l.place ≤ length l.logs) × (holder_of l.object l.start (map (λ log. log.items) (drop l.place l.logs)) ≡ None)

abbrev pub decreases-loop-place : goal.decreases-loop-place
decreases-loop-place l = l.place
