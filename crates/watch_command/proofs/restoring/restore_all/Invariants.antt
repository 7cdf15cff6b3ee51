use Rattle.watch_command.proofs.Names.{moved_at, AreCursors, AreRestored, ◌≤◌, length, drop}
use Rattle.watch_command.proofs.restoring.restore_all.Given as goal

abbrev pub decreases-loop-at : goal.decreases-loop-at
decreases-loop-at g l = l.at

-- what the log puts from here on was restored
abbrev pub invariant-loop-at : goal.invariant-loop-at
invariant-loop-at g l = record {
  low : l.at ≤ length l.log;
  cursors_are : AreCursors (λ o. moved_at o l.watches) l.cursors.entries;
  restored : AreRestored (drop l.at l.log) l.watches;
}
