use Rattle.std.proofs.Common.{◌≡◌, ◌++◌, List, length, reverse}
use Rattle.effect_form.specs.declared.effects.Effect.{Effect}
use Rattle.log_replay.specs.Whole.{IsWhole}
use Rattle.log_replay.proofs.wholes.alone.Given as goal

-- those that are left, and those that were added, newest first
abbrev pub invariant-loop-effect : goal.invariant-loop-effect
invariant-loop-effect l = (done : List Effect) × (l.left.items ++ done ≡ reverse l.fn.log.items) × IsWhole done l.whole

abbrev pub decreases-loop-effect : goal.decreases-loop-effect
decreases-loop-effect l = length l.left.items
