use Rattle.script_form.proofs.ReadLemmas.{repeat_fault}
use Rattle.script_form.proofs.row_reader.read_repeat.Goals as goal

pub returns-in_err-count : goal.returns-in_err-count
returns-in_err-count c = repeat_fault c.args.tokens.now c.from_residual.result c.in_err-count.field-0.0 c.from_residual.ensures c.in_err-count.ensures
