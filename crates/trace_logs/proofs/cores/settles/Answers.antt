use Rattle.trace_logs.proofs.Names.{refl, sym, ◌∙◌, knows}
use Rattle.trace_logs.proofs.MarkLemmas.{knows-at, knows-more}
use Rattle.trace_logs.proofs.cores.settles.Goals as goal

pub loop-effect-init : goal.loop-effect-init
unfolding knows
loop-effect-init c = refl

pub returns-then-is_of : goal.returns-then-is_of
returns-then-is_of c = knows-at c.args.log.now c.loop-effect.effect-index c.effect-item.result c.args.stamp c.loop-effect-test.true c.effect-item.is (sym c.is_of.ensures ∙ c.if-is_of.true)

pub loop-effect-preserved : goal.loop-effect-preserved
loop-effect-preserved c = knows-more c.args.log.now c.loop-effect.effect-index c.effect-item.result c.args.stamp c.loop-effect-test.true c.effect-item.is c.loop-effect.invariant (sym c.is_of.ensures ∙ c.if-is_of.false)
