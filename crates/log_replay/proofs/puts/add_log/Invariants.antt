use Rattle.std.proofs.Common.{◌≡◌, reverse, take}
use Rattle.pseudo_time.specs.StampParts.{StampParts}
use Rattle.repository_core.specs.Logs.{marks}
use Rattle.world_core.specs.Deeds.{puts_of}
use Rattle.log_replay.specs.Puts.{puts_at}
use Rattle.log_replay.proofs.puts.add_log.Given as goal

-- with those of the effects so far
abbrev pub invariant-loop-effect : goal.invariant-loop-effect
invariant-loop-effect l = (s : StampParts) → puts_at l.puts s ≡ puts_of s (marks (reverse (take l.effect-index l.log))) (puts_at l.initial.puts s)
