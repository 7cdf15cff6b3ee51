use Rattle.std.specs.Prelude.{◌≡◌, ◌≤◌, ◌++◌, length, map, drop}
use Rattle.log_replay.specs.Folders.{items_of}
use Rattle.snapshot_command.specs.Archives.{complete_from}
use Rattle.snapshot_command.specs.Volumes.{logs_of}
use Rattle.replay_command.specs.Nodes.{complete_of}
use Rattle.replay_command.proofs.logs.complete_logs.Given as goal

-- those that were read, and those to come
abbrev pub invariant-loop-volume : goal.invariant-loop-volume
invariant-loop-volume g l = record {
  logs_are : items_of l.logs.items ++ map (λ c. c.log) (complete_from l.volume (logs_of (drop l.volume l.openings))) ≡ complete_of (logs_of l.openings);
  few : length l.logs.items ≤ l.volume;
}
