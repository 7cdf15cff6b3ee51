use Rattle.script_form.proofs.Names.{subst, ReadsRow}
use Rattle.script_form.proofs.LineReadLemmas.{line_is_read}
use Rattle.script_form.proofs.rows.line_row.Goals as goal

pub returns : goal.returns
returns c = line_is_read c.args.greatest c.args.line.now c.in_ok-tokens.tokens.items c.tokens_row.result c.requires c.in_ok-tokens.ensures (subst (λ z. ReadsRow z c.tokens_row.result) c.as_slice.ensures.value c.tokens_row.ensures)
