use Rattle.repository_log.proofs.Names.{subst, sym, ap, reverse, ◌∙◌, AreMarks}
use Rattle.repository_log.proofs.MarkLemmas.{marks-in-range, marks-reverse}
use Rattle.repository_log.proofs.marks.histories_of.Goals as goal

pub of-requires : goal.of-requires
of-requires c = subst AreMarks (sym (c.as_slice.ensures.value ∙ c.in_ok-marks.ensures.marks)) (marks-in-range c.args.effects.now c.requires)

pub returns : goal.returns
returns c = c.in_ok-histories.ensures ∙ ap reverse (c.as_slice.ensures.value ∙ c.in_ok-marks.ensures.marks) ∙ sym (marks-reverse c.args.effects.now)
