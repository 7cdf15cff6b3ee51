use Rattle.std.proofs.Common.{◌≡◌, take}
use Rattle.std.specs.FinMap as finite
use Rattle.script_replay.specs.Replays.{AllReplay, after_all}
use Rattle.script_replay.proofs.replays.replay.Given as goal

-- those so far replay, and leave this map
abbrev pub invariant-loop-stamp : goal.invariant-loop-stamp
invariant-loop-stamp l = (l.place ≡ l.stamp-index) × AllReplay (take l.stamp-index l.told) finite.empty × (l.map ≡ after_all (take l.stamp-index l.told) finite.empty)
