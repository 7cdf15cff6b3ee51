use Rattle.trace_report.proofs.FirstLemmas.{firsts-new, firsts-again}
use Rattle.trace_report.proofs.firsts.Firsts.say.Goals as goal

pub returns-in_ok-put : goal.returns-in_ok-put
returns-in_ok-put c = λ log f said h. firsts-new c.args.self.now c.put.new.self log f c.args.stamp c.args.first c.get.result said c.get.ensures c.if-is_none.ensures c.in_ok-put.ensures h

pub returns-else-is_none : goal.returns-else-is_none
returns-else-is_none c = λ log f said h. firsts-again c.args.self.now log f c.args.stamp c.args.first c.get.result said c.get.ensures c.if-is_none.ensures h
