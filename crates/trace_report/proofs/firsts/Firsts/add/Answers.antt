use Rattle.trace_report.proofs.FirstLemmas.{firsts-same, nothing-said}
use Rattle.trace_report.proofs.firsts.Firsts.add.Goals as goal

pub returns-in_default : goal.returns-in_default
returns-in_default c = λ log h. firsts-same c.args.self.now log c.args.effect.now (nothing-said c.args.effect.now c.in_default.not-Decide c.in_default.not-Learn) h
