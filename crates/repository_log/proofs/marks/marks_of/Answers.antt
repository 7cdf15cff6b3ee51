use Rattle.repository_log.proofs.Names.{◌++◌, ◌∙◌, ap, subst, sym, take_all, AreMarks, marks, option_to_list}
use Rattle.repository_log.proofs.MarkLemmas.{marks-next, marks-in-range}
use Rattle.repository_log.proofs.marks.marks_of.Goals as goal

pub loop-effect-preserved : goal.loop-effect-preserved
loop-effect-preserved c =
    marks-next c.args.effects.now c.loop-effect.effect-index c.effect-item.result c.loop-effect.marks.items c.add_mark.new.marks.items c.loop-effect-test.true c.effect-item.is c.loop-effect.invariant
    (c.in_ok-add_mark.ensures ∙ ap (λ o. c.loop-effect.marks.items ++ option_to_list o) c.in_ok-mark.ensures.mark)

pub returns-clause-in_range : goal.returns-clause-in_range
returns-clause-in_range c = λ h.
    let xs = c.args.effects.now in
    subst AreMarks (sym (c.loop-effect.invariant ∙ ap marks (take_all c.loop-effect.effect-index xs c.loop-effect-test.false))) (marks-in-range xs h)
