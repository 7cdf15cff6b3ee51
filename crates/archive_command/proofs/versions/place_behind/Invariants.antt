use Rattle.archive_command.proofs.Names.{◌≡◌, ◌+◌, drop, count_until}
use Rattle.archive_command.proofs.versions.place_behind.Given as goal

-- the versions so far start no later
abbrev pub invariant-loop-place : goal.invariant-loop-place
invariant-loop-place l = count_until l.start l.versions ≡ l.place + count_until l.start (drop l.place l.versions)
