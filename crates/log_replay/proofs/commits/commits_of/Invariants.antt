use Rattle.std.proofs.Common.{take}
use Rattle.log_replay.specs.Commits.{AreCommits}
use Rattle.log_replay.specs.Folders.{items_of}
use Rattle.log_replay.proofs.commits.commits_of.Given as goal

-- the logs so far
abbrev pub invariant-loop-log : goal.invariant-loop-log
invariant-loop-log l = AreCommits (items_of (take l.log-index l.logs)) l.all.items
