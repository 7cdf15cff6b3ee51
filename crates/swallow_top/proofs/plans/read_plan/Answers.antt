use Rattle.swallow_top.proofs.Names.{subst, IsReadAs}
use Rattle.swallow_top.proofs.InputLemmas.{reads-plan}
use Rattle.swallow_top.proofs.plans.read_plan.Goals as goal

pub returns : goal.returns
returns g c =
    reads-plan (g.I.Source.left c.args.source.now) (g.I.Source.left c.read_all.new.source) (g.I.Source.faults c.args.source.now) (g.I.Source.faults c.read_all.new.source) c.in_ok-bytes.bytes.items c.plan_of.result c.in_ok-bytes.ensures.bytes c.in_ok-bytes.ensures.ended
    (subst (λ z. IsReadAs z c.plan_of.result) c.as_slice.ensures.value c.plan_of.ensures)
