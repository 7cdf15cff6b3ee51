use Rattle.repository_log.proofs.Names.{◌≡◌, take, marks}
use Rattle.repository_log.proofs.marks.marks_of.Given as goal

-- those of the effects so far
abbrev pub invariant-loop-effect : goal.invariant-loop-effect
invariant-loop-effect l = l.marks.items ≡ marks (take l.effect-index l.effects)
