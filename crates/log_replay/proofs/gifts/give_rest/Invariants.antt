use Rattle.std.proofs.Common.{length}
use Rattle.world_core.specs.Deeds.{RunLogs}
use Rattle.log_replay.specs.Folders.{HaveBrokers, items_of}
use Rattle.log_replay.specs.Tellers.{AllScripts}
use Rattle.log_replay.specs.Telling.{AreDecided, AreGiven, left_at, told_at}
use Rattle.log_replay.proofs.gifts.give_rest.Given as goal

-- those that aren't left are given
abbrev pub invariant-loop-stamp : goal.invariant-loop-stamp
invariant-loop-stamp l = record {
  scripts : AllScripts (told_at l.initial.told) → AllScripts (told_at l.told);
  gives : (k : RunLogs) → AreDecided k l.commits → HaveBrokers k (items_of l.brokers) → AreGiven k (told_at l.initial.told) (left_at l.initial.puts) → AreGiven k (told_at l.told) (left_at l.puts);
}

abbrev pub decreases-loop-stamp : goal.decreases-loop-stamp
decreases-loop-stamp l = length l.puts.entries
