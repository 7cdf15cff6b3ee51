use Rattle.plan_form.proofs.Names.{◌+◌, sym, ◌∙◌, subst, arith, Err, IsActRead, ReadsAct}
use Rattle.plan_form.proofs.ActReadLemmas.{Reading, reading_blank, reading_one, reading_fault}
use Rattle.plan_form.proofs.acts.acts_of.Goals as goal

pub loop-rest-preserved-then-is_blank : goal.loop-rest-preserved-then-is_blank
loop-rest-preserved-then-is_blank c =
    reading_blank c.args.repositories c.args.brokers c.args.before c.args.bytes.now c.loop-rest.rest.now c.loop-rest.at c.loop-rest.acts.items c.first_line.result.0.now c.first_line.result.1.now c.loop-rest.invariant
    (record { first = c.first_line.ensures.first; shorter = c.first_line.ensures.shorter }) (sym c.is_blank.ensures ∙ c.if-is_blank.true)

pub loop-rest-smaller : goal.loop-rest-smaller
loop-rest-smaller c =
    let act : IsActRead c.args.repositories c.args.brokers (c.len.result + 1) (c.loop-rest.at + 1) c.first_line.result.0.now c.first_line.result.1.now c.in-Ok.read.act c.in-Ok.read.rest.now c.in-Ok.read.at = c.in-Ok.ensures in
    let shorter = act.script.shorter in
    let next = c.first_line.ensures.shorter in
    omega (arith, shorter, next)

pub loop-rest-preserved : goal.loop-rest-preserved
loop-rest-preserved c =
    subst (Reading c.args.repositories c.args.brokers c.args.before c.args.bytes.now c.in-Ok.read.rest.now c.in-Ok.read.at) (sym c.in_ok-push-in-Ok.ensures.items)
    (reading_one c.args.repositories c.args.brokers c.args.before c.args.bytes.now c.loop-rest.rest.now c.loop-rest.at c.loop-rest.acts.items c.first_line.result.0.now c.first_line.result.1.now c.in-Ok.read.act c.in-Ok.read.rest.now c.in-Ok.read.at
    c.loop-rest.invariant (record { first = c.first_line.ensures.first; shorter = c.first_line.ensures.shorter }) (sym c.is_blank.ensures ∙ c.if-is_blank.false)
    (subst (λ z. IsActRead c.args.repositories c.args.brokers (z + 1) (c.loop-rest.at + 1) c.first_line.result.0.now c.first_line.result.1.now c.in-Ok.read.act c.in-Ok.read.rest.now c.in-Ok.read.at) (c.len.ensures ∙ c.loop-rest.acts.ok.0) c.in-Ok.ensures))

pub returns-in-Err : goal.returns-in-Err
returns-in-Err c =
    reading_fault c.args.repositories c.args.brokers c.args.before c.args.bytes.now c.loop-rest.rest.now c.loop-rest.at c.loop-rest.acts.items c.first_line.result.0.now c.first_line.result.1.now c.in-Err.wrong
    c.loop-rest.invariant (record { first = c.first_line.ensures.first; shorter = c.first_line.ensures.shorter }) (sym c.is_blank.ensures ∙ c.if-is_blank.false)
    (subst (λ z. ReadsAct c.args.repositories c.args.brokers (z + 1) (c.loop-rest.at + 1) c.first_line.result.0.now c.first_line.result.1.now (Err c.in-Err.wrong)) (c.len.ensures ∙ c.loop-rest.acts.ok.0) c.in-Err.ensures)
