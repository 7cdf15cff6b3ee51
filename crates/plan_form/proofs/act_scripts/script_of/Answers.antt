use Rattle.plan_form.proofs.Names.{sym, ◌∙◌, subst, Err, ReadsScript}
use Rattle.plan_form.proofs.ScriptReadLemmas.{feeding_one, feeding_fault, ended_script, ended_fault}
use Rattle.plan_form.proofs.act_scripts.script_of.Goals as goal

pub returns-in-Ok : goal.returns-in-Ok
returns-in-Ok c =
    let f = c.loop-rest.invariant in
    ended_script c.args.repositories c.args.before c.args.bytes.now c.loop-rest.rest.now c.loop-rest.at c.loop-rest.reader c.in-Ok.script c.first_line.result.0.now c.first_line.result.1.now f
    (record { first = c.first_line.ensures.first; shorter = c.first_line.ensures.shorter }) (sym c.is_done.ensures ∙ c.if-is_done.true) (c.in-Ok.ensures f.done f.holds)

pub returns-in-Err : goal.returns-in-Err
returns-in-Err c =
    let f = c.loop-rest.invariant in
    subst (λ z. ReadsScript c.args.repositories c.args.before c.args.bytes.now (Err z)) (sym c.script_fault.ensures)
    (ended_fault c.args.repositories c.args.before c.args.bytes.now c.loop-rest.rest.now c.loop-rest.at c.loop-rest.reader c.in-Err.wrong c.first_line.result.0.now c.first_line.result.1.now f
    (record { first = c.first_line.ensures.first; shorter = c.first_line.ensures.shorter }) (sym c.is_done.ensures ∙ c.if-is_done.true) (c.in-Err.ensures f.done f.holds))

pub returns-in-Err-feed : goal.returns-in-Err-feed
returns-in-Err-feed c =
    let f = c.loop-rest.invariant in
    subst (λ z. ReadsScript c.args.repositories c.args.before c.args.bytes.now (Err z)) (sym c.script_fault-in-Err-feed.ensures)
    (feeding_fault c.args.repositories c.args.before c.args.bytes.now c.loop-rest.rest.now c.loop-rest.at c.loop-rest.reader c.in-Err-feed.wrong c.first_line.result.0.now c.first_line.result.1.now f
    (record { first = c.first_line.ensures.first; shorter = c.first_line.ensures.shorter }) (sym c.is_done.ensures ∙ c.if-is_done.false) (c.in-Err-feed.ensures f.done f.holds))

pub loop-rest-preserved : goal.loop-rest-preserved
loop-rest-preserved c =
    let f = c.loop-rest.invariant in
    feeding_one c.args.repositories c.args.before c.args.bytes.now c.loop-rest.rest.now c.loop-rest.at c.loop-rest.reader c.in-Ok-feed.next c.first_line.result.0.now c.first_line.result.1.now f
    (record { first = c.first_line.ensures.first; shorter = c.first_line.ensures.shorter }) (sym c.is_done.ensures ∙ c.if-is_done.false) (c.in-Ok-feed.ensures f.done f.holds)
