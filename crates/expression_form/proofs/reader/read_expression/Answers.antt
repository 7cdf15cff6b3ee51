use Rattle.expression_form.proofs.Names.{sym, ◌∙◌, ap, Some}
use Rattle.expression_form.proofs.Readings.{built-spells, deep-spells, none-spells}
use Rattle.expression_form.proofs.reader.read_expression.Goals as goal

pub returns-in-None : goal.returns-in-None
returns-in-None c = none-spells c.args.tokens.now (sym c.in_ok-operand_read.ensures ∙ c.in-None.is)

pub returns-in-Built : goal.returns-in-Built
returns-in-Built c =
    built-spells c.args.tokens.now c.in-Built.expression c.in-Built.field-1 (sym c.in_ok-operand_read.ensures ∙ c.in-Some.is ∙ ap Some c.in-Built.is)

pub returns-in-Deep : goal.returns-in-Deep
returns-in-Deep c = deep-spells c.args.tokens.now (sym c.in_ok-operand_read.ensures ∙ c.in-Some.is ∙ ap Some c.in-Deep.is)
