use Rattle.script_form.proofs.BlockLemmas.{one_script}
use Rattle.script_form.proofs.row_laws.law_of_scripts.Goals as goal

pub returns : goal.returns
returns c = one_script
