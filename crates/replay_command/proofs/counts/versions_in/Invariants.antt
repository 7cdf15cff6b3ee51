use Rattle.std.specs.Prelude.{◌≡◌, take}
use Rattle.log_replay.specs.Folders.{items_of}
use Rattle.replay_command.specs.Counts.{capped, all_puts}
use Rattle.replay_command.proofs.counts.versions_in.Given as goal

-- those so far
abbrev pub invariant-loop-log : goal.invariant-loop-log
invariant-loop-log l = l.count ≡ capped (all_puts (items_of (take l.log-index l.logs)))
