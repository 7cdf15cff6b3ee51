use Rattle.script_form.proofs.RangeLemmas.{printable-range}
use Rattle.script_form.proofs.ReadLimitLemmas.{script_is_printable}
use Rattle.script_form.proofs.PrintLemmas.{one_script_of_lines, printed_is_script}
use Rattle.script_form.proofs.laws.law_of_lines.Goals as goal

pub returns-clause-one : goal.returns-clause-one
returns-clause-one c = one_script_of_lines

pub returns-clause-printed : goal.returns-clause-printed
returns-clause-printed c = printed_is_script

pub returns-clause-limits : goal.returns-clause-limits
returns-clause-limits c = script_is_printable

pub returns-clause-ranges : goal.returns-clause-ranges
returns-clause-ranges c = printable-range
