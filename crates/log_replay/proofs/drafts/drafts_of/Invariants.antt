use Rattle.std.proofs.Common.{◌≡◌, reverse, take}
use Rattle.log_replay.specs.Drafts.{read_off, read_parts}
use Rattle.log_replay.proofs.drafts.drafts_of.Given as goal

-- the effects so far
abbrev pub invariant-loop-effect : goal.invariant-loop-effect
invariant-loop-effect l = read_parts l.drafts ≡ read_off (reverse (take l.effect-index l.log))
