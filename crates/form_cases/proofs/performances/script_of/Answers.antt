use Rattle.value_form.specs.Mirror.{block}
use Rattle.script_form.proofs.RangeLemmas.{printable-range}
use Rattle.form_cases.proofs.performances.script_of.Goals as goal

-- the script of a text that was parsed is one of the language
pub returns-in-Ok : goal.returns-in-Ok
returns-in-Ok c = printable-range 16 (block c.in-Ok.script.lines) (c.law_of_lines.ensures.limits 16 _ (block c.in-Ok.script.lines) c.in-Ok.ensures)
