use Rattle.std.specs.Prelude.{◌≡◌, ◌≤◌, take}
use Rattle.replay_command.specs.Counts as spec
use Rattle.replay_command.proofs.counts.counts_of.Given as goal

-- those so far
abbrev pub invariant-loop-stamp : goal.invariant-loop-stamp
invariant-loop-stamp l = record {
  are : l.counts ≡ spec.counts_of (take l.stamp-index l.told);
  attempts : l.counts.attempts ≤ l.stamp-index;
  committed : l.counts.committed ≤ l.stamp-index;
  unended : l.counts.unended ≤ l.stamp-index;
  given : l.counts.given ≤ l.stamp-index;
}
