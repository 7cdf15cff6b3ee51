use Rattle.archive_store.proofs.HomeLemmas.{none-there}
use Rattle.archive_store.proofs.homes.at_home.Goals as goal

pub returns-in-None : goal.returns-in-None
returns-in-None c = none-there c.args.known.now c.args.stamp c.home.result c.from-home.result c.home.ensures c.from-home.ensures c.if-home-eq0.false c.in-None.ensures.lookup.0
