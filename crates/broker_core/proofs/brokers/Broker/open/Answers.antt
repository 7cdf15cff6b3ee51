use Rattle.std.specs.Prelude.{IfOk}
use Rattle.broker_core.proofs.Names.{◌≡◌, Opens, opened_broker, Scripted, subst, sym}
use Rattle.broker_core.proofs.brokers.Broker.open.Goals as goal

pub returns-clause-opens : goal.returns-clause-opens
returns-clause-opens c = λ script m.
    subst (λ acts. Opens script c.args.number c.args.run acts c.args.effects.now c.open_with.result) c.in_ok-own.ensures
    (c.open_with.ensures.opens script (subst (Scripted script) (sym c.in_ok-own.ensures) m))

pub returns-clause-fresh : goal.returns-clause-fresh
returns-clause-fresh c =
    subst (λ acts. IfOk c.open_with.result (λ b. b ≡ opened_broker c.args.number c.args.run acts c.args.effects.now)) c.in_ok-own.ensures
    c.open_with.ensures.fresh
