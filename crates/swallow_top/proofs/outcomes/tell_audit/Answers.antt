use Rattle.archive_promise.specs.Question.TheVariants as question
use Rattle.swallow_top.proofs.Names.{shelf_sight, sinking}
use Rattle.swallow_top.proofs.OutcomeLemmas.{tells-answer}
use Rattle.swallow_top.proofs.outcomes.tell_audit.Goals as goal

pub returns : goal.returns
returns g c =
    let k = g.O.Sink in
    tells-answer g.S.Medium.Medium (shelf_sight g.S.Shelf c.args.shelf.now) (shelf_sight g.S.Shelf c.ask-outcome.new.shelf) c.ask-outcome.result.1.items
    (sinking (k.taken c.args.sink.now) (k.taken c.tell_outcome.new.sink) (k.faults c.args.sink.now) (k.faults c.tell_outcome.new.sink)) c.tell_outcome.result (question.Audit c.args.object) c.ask-outcome.result.0 tt c.ask-outcome.ensures
    c.tell_outcome.ensures
