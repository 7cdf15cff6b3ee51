use Rattle.run_media.proofs.OpeningLemmas.{refuses-shut, refuses-repository, refuses-broker}
use Rattle.run_media.proofs.refusals.refusal_of.Goals as goal

pub returns-in-Shut : goal.returns-in-Shut
returns-in-Shut g c = refuses-shut c.args.plan.now c.args.node c.args.opening.now _ _ c.in-Shut.is c.requires.plan

pub returns-in-Repository : goal.returns-in-Repository
returns-in-Repository g c = refuses-repository c.args.plan.now c.args.node c.args.opening.now c.in-Open.field-0 c.in-Open.effects c.in-Open.is c.in-Repository.is

pub returns-in-Broker : goal.returns-in-Broker
returns-in-Broker g c =
    refuses-broker c.args.plan.now c.args.node c.args.opening.now c.in-Open.field-0 c.in-Open.effects c.as_slice.result.now c.broker_refusal.result c.in-Open.is c.as_slice.ensures.value c.in-Broker.is c.broker_refusal.ensures
