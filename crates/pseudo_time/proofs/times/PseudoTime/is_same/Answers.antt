use Rattle.std.proofs.Common.{◌∙◌}
use Rattle.pseudo_time.proofs.EqualLemmas.{same_time-parts}
use Rattle.pseudo_time.proofs.times.PseudoTime.is_same.Goals as goal

pub returns : goal.returns
returns c = c.eq.ensures ∙ same_time-parts c.args.self.now c.args.other
