use Rattle.trace_report.proofs.Names.{reverse, take, AreFirsts}
use Rattle.trace_report.proofs.firsts.Firsts.of.Given as goal

abbrev pub invariant-loop-effect : goal.invariant-loop-effect
invariant-loop-effect l = AreFirsts (reverse (take l.effect-index l.effects)) l.firsts
