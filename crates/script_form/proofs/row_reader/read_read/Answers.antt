use Rattle.script_form.proofs.ReadLemmas.{read_fault}
use Rattle.script_form.proofs.row_reader.read_read.Goals as goal

pub returns-in_err-place : goal.returns-in_err-place
returns-in_err-place c = read_fault c.in-Some.name.now c.args.tokens.now c.in-Some.rest.now c.in-Some.ensures c.from_residual.result c.in_err-place.field-0.0 c.from_residual.ensures c.in_err-place.ensures
