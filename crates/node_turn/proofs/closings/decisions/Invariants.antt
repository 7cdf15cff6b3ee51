use Rattle.std.proofs.Common.{◌≡◌, take}
use Rattle.node_inputs.specs.Decisions.{decided_by}
use Rattle.node_turn.proofs.closings.decisions.Given as goal

abbrev pub invariant-loop-effect : goal.invariant-loop-effect
invariant-loop-effect l = l.all.items ≡ decided_by l.node (take l.effect-index l.effects)
