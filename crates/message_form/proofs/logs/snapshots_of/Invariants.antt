use Rattle.std.proofs.Common.{◌≡◌, take, map}
use Rattle.message_form.proofs.logs.snapshots_of.Given as goal

-- those so far
abbrev pub invariant-loop-effect : goal.invariant-loop-effect
invariant-loop-effect l = map (λ s. s.value) l.snapshots.items ≡ take l.effect-index l.effects
