use Rattle.std.proofs.Common.{map, reverse, take}
use Rattle.serial_law.specs.Wholes.{whole_log}
use Rattle.log_replay.specs.Folders.{items_of}
use Rattle.log_replay.specs.Whole.{IsWhole}
use Rattle.log_replay.proofs.wholes.with_olds.Given as goal

-- with the versions of the older ones so far
abbrev pub invariant-loop-old : goal.invariant-loop-old
invariant-loop-old l = IsWhole (whole_log (map reverse (reverse (items_of (take l.old-index l.olds)))) (reverse l.fn.log.items)) l.whole
