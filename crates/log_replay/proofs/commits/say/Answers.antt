use Rattle.log_replay.proofs.CommitLemmas.{said-again, said-new}
use Rattle.log_replay.proofs.commits.say.Goals as goal

pub returns-in_ok-put : goal.returns-in_ok-put
returns-in_ok-put c = λ log f said h. said-new c.args.said.now c.put.new.self log f c.args.stamp c.args.committed c.get.result said c.get.ensures c.if-is_none.ensures c.in_ok-put.ensures.ok h

pub returns-else-is_none : goal.returns-else-is_none
returns-else-is_none c = λ log f said h. said-again c.args.said.now log f c.args.stamp c.args.committed c.get.result said c.get.ensures c.if-is_none.ensures h
