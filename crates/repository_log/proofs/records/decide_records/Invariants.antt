use Rattle.repository_log.proofs.Names.{reverse, take, AreDecided, AreKept}
use Rattle.repository_log.proofs.records.decide_records.Given as goal

-- as the log so far says
abbrev pub invariant-loop-effect : goal.invariant-loop-effect
invariant-loop-effect l = record {
  decided : AreDecided (reverse l.effects) (reverse (take l.effect-index l.effects)) l.records;
  kept : AreKept (reverse l.effects) (reverse (take l.effect-index l.effects)) l.early.entries;
}
