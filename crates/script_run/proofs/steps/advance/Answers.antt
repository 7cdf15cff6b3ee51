use Rattle.script_run.proofs.Names.{sym, ap, ◌∙◌, subst, option_copied, out-Stmt, Arrival, step_at, stand_of, ArrivesAt}
use Rattle.script_run.proofs.KeepLemmas.{counted_more}
use Rattle.script_run.proofs.RangeLemmas.{found-IsStep}
use Rattle.script_run.proofs.steps.advance.Goals as goal

pub begin-requires-clause-range : goal.begin-requires-clause-range
begin-requires-clause-range c = found-IsStep c.args.script.now c.args.machine.now.path c.args.machine.now.at c.statement_at.result c.in-Some.stmt c.requires c.statement_at.ensures.found c.in-Some.is

pub returns-in_ok-begin-in-Some-2 : goal.returns-in_ok-begin-in-Some-2
returns-in_ok-begin-in-Some-2 c =
    let m = c.args.machine.now in
    let is = sym (ap (step_at (stand_of m)) c.statement_at.ensures.found) ∙ ap (λ r. step_at (stand_of m) (option_copied r)) c.in-Some.is ∙ counted_more (stand_of m) m.left (out-Stmt c.in-Some.stmt.now) c.if-machine-eq0.false in
    subst (λ (a : Arrival). ArrivesAt a c.in_ok-begin-in-Some-2.field-0 m c.begin.new.machine) (sym is) c.in_ok-begin-in-Some-2.ensures
