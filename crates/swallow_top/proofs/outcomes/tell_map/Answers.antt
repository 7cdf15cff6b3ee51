use Rattle.archive_promise.specs.Question.TheVariants as question
use Rattle.swallow_top.proofs.Names.{IsOfStamp, shelf_sight, AskedNothing, TellsAnswer, sinking, ◌⊎◌, refl, subst, sym}
use Rattle.swallow_top.proofs.OutcomeLemmas.{tells-answer}
use Rattle.swallow_top.proofs.outcomes.tell_map.Goals as goal

pub returns : goal.returns
returns g c =
    let w = g.S.Medium.Medium in
    let old = shelf_sight g.S.Shelf c.args.shelf.now in
    let new = shelf_sight g.S.Shelf c.ask-outcome.new.shelf in
    let k = g.O.Sink in
    let s = sinking (k.taken c.args.sink.now) (k.taken c.tell_outcome.new.sink) (k.faults c.args.sink.now) (k.faults c.tell_outcome.new.sink) in
    let media = c.ask-outcome.result.1.items in
    subst (λ m. AskedNothing w old new media s c.tell_outcome.result ⊎ TellsAnswer w old new (question.AsOf c.args.repository m) media s c.tell_outcome.result) c.mark_of-mark.ensures
    (tells-answer w old new media s c.tell_outcome.result (question.AsOf c.args.repository c.mark_of-mark.result) c.ask-outcome.result.0
    (subst (λ z. IsOfStamp (question.AsOf c.args.repository z)) (sym c.mark_of-mark.ensures) refl) c.ask-outcome.ensures c.tell_outcome.ensures)
