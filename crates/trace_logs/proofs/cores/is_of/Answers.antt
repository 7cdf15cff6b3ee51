use Rattle.std.proofs.Common.{sym, ◌∙◌}
use Rattle.pseudo_time.proofs.EqualLemmas.{same_stamp-parts}
use Rattle.trace_logs.proofs.MarkLemmas.{knows-other, knows-settle}
use Rattle.trace_logs.proofs.cores.is_of.Goals as goal

pub returns-in_default : goal.returns-in_default
returns-in_default c = knows-other c.args.effect.now c.args.stamp c.in_default.not-Decide c.in_default.not-Learn

pub returns-in-Decide : goal.returns-in-Decide
returns-in-Decide c = c.eq.ensures ∙ same_stamp-parts c.in-Decide.of c.args.stamp ∙ sym (knows-settle c.args.effect.now c.in-Decide.of c.args.stamp c.in-Decide.is)
