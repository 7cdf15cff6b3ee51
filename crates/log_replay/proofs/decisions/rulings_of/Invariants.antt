use Rattle.std.proofs.Common.{take}
use Rattle.world_core.specs.Deeds.{RunLogs}
use Rattle.log_replay.specs.Decisions.{AreKept, HaveLogs, IsBased}
use Rattle.log_replay.specs.Folders.{items_of}
use Rattle.log_replay.proofs.decisions.rulings_of.Given as goal

-- the logs so far
abbrev pub invariant-loop-place : goal.invariant-loop-place
invariant-loop-place l = record {
  kept : AreKept l.rulings.decided l.rulings.least 0 (items_of (take l.place l.repositories));
  based : (k : RunLogs) → HaveLogs k (items_of l.repositories) → IsBased k l.rulings;
}
