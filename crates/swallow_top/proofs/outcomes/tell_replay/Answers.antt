use Rattle.swallow_top.proofs.Names.{shelf_sight, sinking}
use Rattle.swallow_top.proofs.OutcomeLemmas.{tells-replay}
use Rattle.swallow_top.proofs.outcomes.tell_replay.Goals as goal

pub returns : goal.returns
returns g c =
    let k = g.O.Sink in
    tells-replay g.S.Medium.Medium (shelf_sight g.S.Shelf c.args.shelf.now) (shelf_sight g.S.Shelf c.replay-outcome.new.shelf) c.replay-outcome.result.1.items
    (sinking (k.taken c.args.sink.now) (k.taken c.tell_outcome.new.sink) (k.faults c.args.sink.now) (k.faults c.tell_outcome.new.sink)) c.tell_outcome.result c.args.values c.replay-outcome.result.0 c.replay-outcome.ensures
    c.tell_outcome.ensures
