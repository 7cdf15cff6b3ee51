use Rattle.plan_volumes.proofs.Names.{map-set, medium_in}
use Rattle.plan_volumes.proofs.asides.put_back.Goals as goal

pub returns-clause-back : goal.returns-clause-back
returns-clause-back g c = map-set medium_in c.args.aside.rest.items c.args.aside.working _
