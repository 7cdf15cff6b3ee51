use Rattle.repository_log.proofs.Names.{reverse, take, AreBegun}
use Rattle.repository_log.proofs.records.open_records.Given as goal

-- those of the log so far
abbrev pub invariant-loop-effect : goal.invariant-loop-effect
invariant-loop-effect l = AreBegun (reverse (take l.effect-index l.effects)) l.records
