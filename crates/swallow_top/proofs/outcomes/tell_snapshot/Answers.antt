use Rattle.swallow_top.proofs.Names.{shelf_sight, sinking}
use Rattle.swallow_top.proofs.OutcomeLemmas.{tells-snapshot}
use Rattle.swallow_top.proofs.outcomes.tell_snapshot.Goals as goal

pub returns : goal.returns
returns g c =
    let k = g.O.Sink in
    tells-snapshot g.S.Medium.Medium (shelf_sight g.S.Shelf c.args.shelf.now) (shelf_sight g.S.Shelf c.snapshot-outcome.new.shelf) c.snapshot-outcome.result.1.items
    (sinking (k.taken c.args.sink.now) (k.taken c.tell_outcome.new.sink) (k.faults c.args.sink.now) (k.faults c.tell_outcome.new.sink)) c.tell_outcome.result c.args.clock c.snapshot-outcome.result.0 c.snapshot-outcome.ensures
    c.tell_outcome.ensures
