use Rattle.archive_command.proofs.Names.{inr, subst, shelf_sight, Answers}
use Rattle.archive_command.proofs.AnswerLemmas.{answers-over, handed-back}
use Rattle.archive_command.proofs.calls.ask.Goals as goal

pub returns : goal.returns
returns g c =
    let h = g.S.Shelf in
    let node = c.asked_of-node.result in
    let os = c.open_volumes-openings.result.items in
    inr (answers-over g.S.Medium.Medium (shelf_sight h c.args.shelf.now) (shelf_sight h c.open_volumes-openings.new.shelf) c.args.question node c.open_volumes-openings.ensures.volumes.0 os c.keep_volumes.result.items
    c.answer-outcome.result c.asked_of-node.ensures c.open_volumes-openings.ensures.volumes.1
    (handed-back node os c.give_back.result.items c.in-Ok-with_capacity-2.kept.items c.keep_volumes.result.items c.in-Ok-with_capacity-2.ensures.items c.give_back.ensures.back c.keep_volumes.ensures.kept)
    (subst (λ l. Answers c.args.question l c.answer-outcome.result) c.as_slice.ensures.value c.answer-outcome.ensures))
