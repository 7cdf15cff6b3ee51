use Rattle.swallow_top.proofs.Names.{shelf_sight, sinking}
use Rattle.swallow_top.proofs.RetirementLemmas.{tells-retirement}
use Rattle.swallow_top.proofs.retirements.tell_retirement.Goals as goal

pub returns : goal.returns
returns g c =
    let h = g.S.Shelf in
    let k = g.O.Sink in
    tells-retirement g.S.Medium.Medium (shelf_sight h c.args.shelf.now) (shelf_sight h c.retire-retired.new.shelf) c.args.repository c.args.clock c.retire-retired.result.1.items
    (sinking (k.taken c.args.sink.now) (k.taken c.tell_retired.new.sink) (k.faults c.args.sink.now) (k.faults c.tell_retired.new.sink)) c.tell_retired.result c.mark_of.result c.retire-retired.result.0 c.mark_of.ensures c.retire-retired.ensures c.tell_retired.ensures
