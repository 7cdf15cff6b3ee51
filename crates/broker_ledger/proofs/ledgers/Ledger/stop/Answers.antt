use Rattle.broker_ledger.proofs.StopLemmas.{stepped, renewed}
use Rattle.broker_ledger.proofs.ledgers.Ledger.stop.Goals as goal

pub returns-in-Some-clause-stop : goal.returns-in-Some-clause-stop
returns-in-Some-clause-stop c =
    stepped c.args.self.now _ _ c.in-Some.run' c.next.new.self.lines c.in_ok-next.next c.self.view_is c.self.invariant.stepper_fits c.in-Some.is c.in_ok-next.ensures.tells

pub returns-clause-stop : goal.returns-clause-stop
returns-clause-stop c =
    renewed c.args.self.now _ c.in_ok-run.field-0 c.in-Some-2.run' c.next-2.new.self.lines c.in_ok-next-2.next c.self.view_is c.in_ok-run.ensures c.in-Some-2.is c.in_ok-next-2.ensures.tells
