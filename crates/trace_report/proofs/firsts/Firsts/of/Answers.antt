use Rattle.trace_report.proofs.FirstLemmas.{firsts-none}
use Rattle.trace_report.proofs.firsts.Firsts.of.Goals as goal

pub loop-effect-init : goal.loop-effect-init
loop-effect-init c = firsts-none c.new-firsts.result c.new-firsts.ensures
