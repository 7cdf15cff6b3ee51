use Rattle.plan_form.proofs.Names.{made_all, round}
use Rattle.plan_form.proofs.MakingLemmas.{sums_step}
use Rattle.plan_form.proofs.transfers.sums.Goals as goal

pub loop-repository-preserved : goal.loop-repository-preserved
loop-repository-preserved c =
    sums_step c.loop-repository.part.items c.push.new.self.items c.push-in-loop-repository.new.self.items (made_all round) c.in_ok-account_read.field-0 c.in_ok-account_sum.field-0 c.loop-repository.repository
    c.loop-repository-test.true c.in_ok-push.ensures.items c.in_ok-push-2.ensures.items c.in_ok-account_read.ensures c.in_ok-account_sum.ensures c.loop-repository.invariant
