use Rattle.script_run.proofs.Names.{sym, subst, Tells}
use Rattle.script_run.proofs.RunLemmas.{told_tells}
use Rattle.script_run.proofs.runs.Run.next.Goals as goal

pub returns-in_ok-next_of-in-Some-clause-tells : goal.returns-in_ok-next_of-in-Some-clause-tells
returns-in_ok-next_of-in-Some-clause-tells c =
    let i = c.self.inside in
    let t = c.args.self.now in
    subst (Tells t.script t.answers t.lines) (sym c.in_ok-next_of-in-Some.ensures) (told_tells i.script.lines i.machine i.waiting i.stop c.in-Some.halt t c.self.invariant c.self.view_is c.in-Some.is)
