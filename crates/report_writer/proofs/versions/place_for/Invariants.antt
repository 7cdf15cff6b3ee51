use Rattle.report_writer.proofs.Names.{◌≡◌, ◌+◌, drop, count_above}
use Rattle.report_writer.proofs.versions.place_for.Given as goal

-- the versions so far start above
abbrev pub invariant-loop-place : goal.invariant-loop-place
invariant-loop-place l = count_above l.start l.versions ≡ l.place + count_above l.start (drop l.place l.versions)
