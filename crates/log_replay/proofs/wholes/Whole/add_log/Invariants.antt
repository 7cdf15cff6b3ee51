use Rattle.std.proofs.Common.{List, reverse, take}
use Rattle.effect_form.specs.declared.effects.Effect.{Effect}
use Rattle.serial_law.specs.Wholes.{with_puts}
use Rattle.log_replay.specs.Whole.{IsWhole}
use Rattle.log_replay.proofs.wholes.Whole.add_log.Given as goal

-- with the versions of the effects so far
abbrev pub invariant-loop-effect : goal.invariant-loop-effect
invariant-loop-effect l = (met : List Effect) → IsWhole met l.initial.self → IsWhole (with_puts met (reverse (take l.effect-index l.older))) l.self
