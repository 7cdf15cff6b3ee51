use Rattle.std.specs.Prelude.{◌≡◌, take}
use Rattle.std.specs.List.{count_by}
use Rattle.replay_command.specs.Counts.{capped, is_put}
use Rattle.replay_command.proofs.counts.puts_in.Given as goal

-- those so far
abbrev pub invariant-loop-effect : goal.invariant-loop-effect
invariant-loop-effect l = l.count ≡ capped (count_by is_put (take l.effect-index l.log))
