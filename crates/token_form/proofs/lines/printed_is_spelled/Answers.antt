use Rattle.token_form.proofs.Spellings.{spells}
use Rattle.token_form.proofs.lines.printed_is_spelled.Goals as goal

pub returns : goal.returns
returns c = spells
