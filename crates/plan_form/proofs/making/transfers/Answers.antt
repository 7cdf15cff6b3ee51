use Rattle.plan_form.specs.Making.{transfers}
use Rattle.plan_form.proofs.MakingLemmas.{transfers_step}
use Rattle.plan_form.proofs.making.transfers.Goals as goal

pub loop-before-preserved : goal.loop-before-preserved
loop-before-preserved c =
    transfers_step c.loop-before.acts.items c.push.new.self.items (transfers c.args.count c.args.seed 1) c.in_ok-drawn_act.field-0 c.args.count c.loop-before.before c.loop-before.draws.state c.drawn_act.new.draws.state
    c.loop-before-test.true c.in_ok-push.ensures.items c.in_ok-drawn_act.ensures.act c.in_ok-drawn_act.ensures.state c.loop-before.invariant
