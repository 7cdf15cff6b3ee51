use Rattle.report_writer.proofs.Names.{◌≡◌, reverse, take, marks}
use Rattle.object_history.specs.History as history
use Rattle.report_writer.proofs.floors.floor_of.Given as goal

-- the floor of the effects so far
abbrev pub invariant-loop-effect : goal.invariant-loop-effect
invariant-loop-effect l = l.floor ≡ history.floor_of (marks (reverse (take l.effect-index l.effects)))
