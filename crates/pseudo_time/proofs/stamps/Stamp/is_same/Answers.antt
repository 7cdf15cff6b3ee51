use Rattle.std.proofs.Common.{◌∙◌}
use Rattle.pseudo_time.proofs.EqualLemmas.{same_stamp-parts}
use Rattle.pseudo_time.proofs.stamps.Stamp.is_same.Goals as goal

pub returns : goal.returns
returns c = c.eq.ensures ∙ same_stamp-parts c.args.self.now c.args.other
