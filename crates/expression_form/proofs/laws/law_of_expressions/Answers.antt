use Rattle.expression_form.proofs.CanonicalLemmas.{canonical-spells, spelled-in_limits}
use Rattle.expression_form.proofs.Readings.{one_expression}
use Rattle.expression_form.proofs.TextLemmas.{text-tokens}
use Rattle.expression_form.proofs.laws.law_of_expressions.Goals as goal

pub returns-clause-one : goal.returns-clause-one
returns-clause-one c = one_expression

pub returns-clause-canonical : goal.returns-clause-canonical
returns-clause-canonical c = canonical-spells

pub returns-clause-limits : goal.returns-clause-limits
returns-clause-limits c = spelled-in_limits

pub returns-clause-text : goal.returns-clause-text
returns-clause-text c = text-tokens
