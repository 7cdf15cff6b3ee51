use Rattle.object_history.proofs.Names.{value_of, AreMarks, subst, ◌∙◌, ap}
use Rattle.object_history.proofs.LookLemmas.{value-in_range}
use Rattle.object_history.proofs.plain.PlainHistories.answer_seen.Goals as goal

pub returns-clause-in_range : goal.returns-clause-in_range
returns-clause-in_range c =
    value-in_range c.args.self.now _ c.args.object c.in_ok-value.value (subst AreMarks c.self.view_is c.self.invariant.kept.in_range) (c.in_ok-value.ensures ∙ ap value_of c.last-seen.ensures.seen)
