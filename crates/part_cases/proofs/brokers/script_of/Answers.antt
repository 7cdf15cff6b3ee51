use Rattle.value_form.specs.Mirror.{block}
use Rattle.part_cases.proofs.brokers.script_of.Goals as goal

-- a script that was parsed is one of the language
pub returns-in-Ok : goal.returns-in-Ok
returns-in-Ok c = c.law_of_lines.ensures.limits 16 _ (block c.in-Ok.script.lines) c.in-Ok.ensures
