use Rattle.run_volumes.proofs.StandLemmas.{shut-at}
use Rattle.run_volumes.proofs.standings.stand_of.Goals as goal

pub returns-in-Shut : goal.returns-in-Shut
returns-in-Shut g c =
    shut-at c.args.openings.now c.loop-opening.opening-index c.opening-item.result c.in-Shut.field-0 c.in-Shut.cause c.loop-opening-test.true c.opening-item.is c.in-Shut.is
