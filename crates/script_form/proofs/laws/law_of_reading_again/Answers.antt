use Rattle.script_form.proofs.ReadLimitLemmas.{read_again}
use Rattle.script_form.proofs.laws.law_of_reading_again.Goals as goal

pub returns : goal.returns
returns c = read_again
