use Rattle.std.proofs.Common.{inl, refl, sym, ◌∙◌, subst}
use Rattle.std.proofs.lemmas.Bool.{true≢false}
use Rattle.log_replay.specs.Decisions.{AtMost}
use Rattle.log_replay.proofs.DecisionLemmas.{not-below, self-below}
use Rattle.log_replay.proofs.decisions.lesser.Goals as goal

pub returns-then-is_less-clause-there : goal.returns-then-is_less-clause-there
returns-then-is_less-clause-there c = self-below c.args.stamp

pub returns-then-is_less-clause-least : goal.returns-then-is_less-clause-least
returns-then-is_less-clause-least c = λ s m. not-below s c.args.stamp c.in-Some.least (subst (λ o. AtMost o s) c.in-Some.is m) (sym c.is_less.ensures ∙ c.if-is_less.true)

pub returns-then-is_less-clause-one : goal.returns-then-is_less-clause-one
returns-then-is_less-clause-one c = inl (refl, λ m. true≢false (sym (sym c.is_less.ensures ∙ c.if-is_less.true) ∙ subst (λ o. AtMost o c.args.stamp) c.in-Some.is m))

pub returns-else-is_less-clause-there : goal.returns-else-is_less-clause-there
returns-else-is_less-clause-there c = sym c.is_less.ensures ∙ c.if-is_less.false

pub returns-in-None-clause-there : goal.returns-in-None-clause-there
returns-in-None-clause-there c = self-below c.args.stamp
