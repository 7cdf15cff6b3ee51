use Rattle.std.proofs.Common.{◌≡◌, [], drop}
use Rattle.pseudo_time.specs.StampParts.{StampParts}
use Rattle.log_replay.specs.Folders.{items_of}
use Rattle.log_replay.specs.Puts.{puts_at, puts_by}
use Rattle.log_replay.proofs.puts.puts_of_all.Given as goal

-- with those of the logs that are left they are all
abbrev pub invariant-loop-log : goal.invariant-loop-log
invariant-loop-log l = (s : StampParts) → puts_by s (items_of (drop l.log-index l.logs)) (puts_at l.puts s) ≡ puts_by s (items_of l.logs) []
