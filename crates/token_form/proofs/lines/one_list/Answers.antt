use Rattle.token_form.proofs.LineLaws as laws
use Rattle.token_form.proofs.lines.one_list.Goals as goal

pub returns : goal.returns
returns c = laws.one_list
