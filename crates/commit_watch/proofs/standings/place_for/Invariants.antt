use Rattle.commit_watch.proofs.Names.{◌≡◌, ◌≤◌, length, true, AllWithin, lt}
use Rattle.commit_watch.proofs.standings.place_for.Given as goal

-- those from the place on start above
abbrev pub invariant-loop-place : goal.invariant-loop-place
invariant-loop-place l = (l.place ≤ length l.versions) × AllWithin (λ w. lt l.start w.start ≡ true) l.versions l.place (length l.versions)

abbrev pub decreases-loop-place : goal.decreases-loop-place
decreases-loop-place l = l.place
