use Rattle.script_form.proofs.ReadLemmas.{if_fault}
use Rattle.script_form.proofs.row_reader.read_if.Goals as goal

pub returns-in_err-condition : goal.returns-in_err-condition
returns-in_err-condition c = if_fault c.args.tokens.now c.from_residual.result c.in_err-condition.field-0.0 c.from_residual.ensures c.in_err-condition.ensures
