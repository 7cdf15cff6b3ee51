use Rattle.swallow_top.proofs.Names.{shelf_sight, sinking}
use Rattle.swallow_top.proofs.OutcomeLemmas.{tells-watch}
use Rattle.swallow_top.proofs.outcomes.tell_watch.Goals as goal

pub returns : goal.returns
returns g c =
    let k = g.O.Sink in
    tells-watch g.S.Medium.Medium (shelf_sight g.S.Shelf c.args.shelf.now) (shelf_sight g.S.Shelf c.watch-outcome.new.shelf) c.watch-outcome.result.1.items
    (sinking (k.taken c.args.sink.now) (k.taken c.tell_outcome.new.sink) (k.faults c.args.sink.now) (k.faults c.tell_outcome.new.sink)) c.tell_outcome.result c.args.repository c.args.rule c.watch-outcome.result.0 c.watch-outcome.ensures
    c.tell_outcome.ensures
