use Rattle.std.proofs.Common.{◌≡◌, take}
use Rattle.replay_command.proofs.logs.copies.Given as goal

-- those so far
abbrev pub invariant-loop-effect : goal.invariant-loop-effect
invariant-loop-effect l = l.copied.items ≡ take l.effect-index l.effects
