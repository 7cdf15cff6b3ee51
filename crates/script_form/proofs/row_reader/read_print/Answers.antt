use Rattle.script_form.proofs.ReadLemmas.{print_fault}
use Rattle.script_form.proofs.row_reader.read_print.Goals as goal

pub returns-in_err-value : goal.returns-in_err-value
returns-in_err-value c = print_fault c.args.tokens.now c.from_residual.result c.in_err-value.field-0.0 c.from_residual.ensures c.in_err-value.ensures
