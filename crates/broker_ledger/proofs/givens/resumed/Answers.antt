use Rattle.broker_ledger.proofs.GivenLemmas.{asked-there}
use Rattle.broker_ledger.proofs.givens.resumed.Goals as goal

pub give-requires : goal.give-requires
give-requires c =
    asked-there c.loop-given.run c.args.script.now.lines c.args.answers.now c.loop-given.given-index c.given-item.result c.loop-given.invariant.0 c.loop-given.invariant.1 c.requires.asked c.loop-given-test.true c.given-item.is
