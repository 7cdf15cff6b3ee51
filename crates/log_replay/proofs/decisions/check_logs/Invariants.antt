use Rattle.std.proofs.Common.{◌≡◌, take}
use Rattle.pseudo_time.specs.StampParts.{StampParts}
use Rattle.world_core.specs.Deeds.{RunLogs}
use Rattle.log_replay.specs.Decisions.{AreLearned, AtMost, HaveLogs, IsBased}
use Rattle.log_replay.specs.Folders.{items_of}
use Rattle.log_replay.proofs.decisions.check_logs.Given as goal

-- the logs so far
abbrev pub invariant-loop-log : goal.invariant-loop-log
invariant-loop-log l = record {
  decided : l.rulings.decided ≡ l.initial.rulings.decided;
  least : (s : StampParts) → AtMost l.initial.rulings.least s → AtMost l.rulings.least s;
  learned : AreLearned l.rulings.decided l.rulings.least (items_of (take l.log-index l.repositories));
  based : (k : RunLogs) → HaveLogs k (items_of l.repositories) → IsBased k l.initial.rulings → IsBased k l.rulings;
}
