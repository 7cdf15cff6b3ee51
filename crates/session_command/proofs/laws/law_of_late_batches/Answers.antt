use Rattle.std.proofs.Common.{◌+◌, arith}
use Rattle.session_form.proofs.HeightLemmas.{all-above}
use Rattle.session_command.proofs.laws.law_of_late_batches.Goals as goal

pub returns : goal.returns
returns c h plan t late logs left opened try has = let k = late logs left opened (h.clock + 1) (all-above h.clock plan.acts) try has in omega (arith, k)
