use Rattle.broker_core.proofs.DoneLemmas.{done-then, done-else}
use Rattle.broker_core.proofs.brokers.Broker.done.Goals as goal

pub returns-then-is_over : goal.returns-then-is_over
returns-then-is_over c = λ script.
    done-then script c.self.inside.ledger c.self.inside.heard c.self.inside.phase c.self.inside.log c.args.self.now c.self.view_is c.self.invariant c.is_over.result c.is_quiet.result c.is_over.ensures c.if-is_over.true c.is_quiet.ensures

pub returns-else-is_over : goal.returns-else-is_over
returns-else-is_over c = λ script.
    done-else script c.self.inside.ledger c.self.inside.heard c.self.inside.phase c.self.inside.log c.args.self.now c.self.view_is c.self.invariant c.is_over.result c.is_over.ensures c.if-is_over.false
