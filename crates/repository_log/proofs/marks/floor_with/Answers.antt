use Rattle.repository_log.proofs.MarkLemmas.{floor-mark, floor-other}
use Rattle.repository_log.proofs.marks.floor_with.Goals as goal

pub returns-in-Mark : goal.returns-in-Mark
returns-in-Mark c log h = floor-mark c.args.effect.now c.in-Mark.at log c.args.floor _ c.in-Mark.is c.later.ensures h

pub returns-in_default : goal.returns-in_default
returns-in_default c log h = floor-other c.args.effect.now log c.args.floor c.in_default.not-Mark h
