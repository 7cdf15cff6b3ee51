use Rattle.trace_report.proofs.Names.{kept, HasActs, subst, sym}
use Rattle.trace_report.proofs.ShownLemmas.{acts-more, kept-last}
use Rattle.trace_report.proofs.shown.by_index.Goals as goal

pub loop-act-preserved : goal.loop-act-preserved
loop-act-preserved c =
    subst (λ acts. HasActs acts c.insert.new.self.entries) (sym (kept-last c.loop-act.yielded c.in-Some.act)) (acts-more (kept c.loop-act.yielded) c.loop-act.map.entries c.insert.new.self.entries c.in-Some.act c.loop-act.invariant c.in_ok-insert.ensures.updates.0)
