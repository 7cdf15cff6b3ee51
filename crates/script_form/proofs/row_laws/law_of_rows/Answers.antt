use Rattle.script_form.proofs.RowLimitLemmas.{spelled_row-in_limits, spelled_row-up_to}
use Rattle.script_form.proofs.OneRow.{one_row}
use Rattle.script_form.proofs.RowTextLemmas.{row_tokens-spell, row_text-tokens, row_tokens-in_range}
use Rattle.script_form.proofs.row_laws.law_of_rows.Goals as goal

pub returns-clause-one : goal.returns-clause-one
returns-clause-one c = one_row

pub returns-clause-spelled : goal.returns-clause-spelled
returns-clause-spelled c = row_tokens-spell

pub returns-clause-text : goal.returns-clause-text
returns-clause-text c = row_text-tokens

pub returns-clause-in_range : goal.returns-clause-in_range
returns-clause-in_range c = row_tokens-in_range

pub returns-clause-limits : goal.returns-clause-limits
returns-clause-limits c = spelled_row-in_limits

pub returns-clause-objects : goal.returns-clause-objects
returns-clause-objects c = spelled_row-up_to
