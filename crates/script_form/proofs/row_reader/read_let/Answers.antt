use Rattle.std.proofs.Common.{◌∙◌, ap, ◌∷◌}
use Rattle.token_form.specs.declared.tokens.Token.TheVariants as t
use Rattle.script_form.proofs.ReadLemmas.{let_fault}
use Rattle.script_form.proofs.row_reader.read_let.Goals as goal

pub returns-in_err-value : goal.returns-in_err-value
returns-in_err-value c =
    let name = c.in-Some.name.now in
    let_fault name c.args.tokens.now c.in-Some-behind_equal.rest.now (c.in-Some.ensures ∙ ap (λ z. t.Name name ∷ z) c.in-Some-behind_equal.ensures) c.from_residual.result c.in_err-value.field-0.0 c.from_residual.ensures c.in_err-value.ensures
