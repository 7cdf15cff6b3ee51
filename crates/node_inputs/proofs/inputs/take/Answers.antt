use Rattle.node_inputs.proofs.Names.{refl, [], ap, with_due}
use Rattle.node_inputs.proofs.LifeLemmas.{on-ok, if-ok, if-err, on-err, up-added, after-added, taken-at, up-stored, stored-looked}
use Rattle.node_inputs.proofs.TrailLemmas.{trail-looked, trail-added}
use Rattle.node_inputs.proofs.inputs.take.Goals as goal

pub returns-in-Err-clause-trail : goal.returns-in-Err-clause-trail
returns-in-Err-clause-trail g c = trail-looked c.args.node c.requires.up.own c.requires.pass.own (on-err _ _ _ c.in-Err.is c.take-pass.ensures.err)

pub returns-in-Behind-clause-trail : goal.returns-in-Behind-clause-trail
returns-in-Behind-clause-trail g c =
    let tk = taken-at _ _ _ _ c.in-Behind.is (if-ok _ _ _ c.in-Ok.is c.take-pass.ensures.ok) in
    trail-looked c.args.node c.requires.up.own c.requires.pass.own tk.0

pub returns-in-Nothing-clause-trail : goal.returns-in-Nothing-clause-trail
returns-in-Nothing-clause-trail g c =
    let tk = taken-at _ _ _ _ c.in-Nothing.is (if-ok _ _ _ c.in-Ok.is c.take-pass.ensures.ok) in
    trail-looked c.args.node c.requires.up.own c.requires.pass.own tk.0

pub returns-in-Err-added-clause-trail : goal.returns-in-Err-added-clause-trail
returns-in-Err-added-clause-trail g c =
    let v = taken-at _ _ _ _ c.in-Arrived.is (if-ok _ _ _ c.in-Ok.is c.take-pass.ensures.ok) in
    trail-added c.args.node [] 0 c.requires.up.own c.requires.pass.own refl refl refl v.added

pub returns-clause-trail : goal.returns-clause-trail
returns-clause-trail g c =
    let v = taken-at _ _ _ _ c.in-Arrived.is (if-ok _ _ _ c.in-Ok.is c.take-pass.ensures.ok) in
    trail-added c.args.node [] 0 c.requires.up.own c.requires.pass.own refl refl refl v.added

pub returns-in-Err-added-clause-err : goal.returns-in-Err-added-clause-err
returns-in-Err-added-clause-err g c =
    let v = taken-at _ _ _ _ c.in-Arrived.is (if-ok _ _ _ c.in-Ok.is c.take-pass.ensures.ok) in
    if-err _ _ _ c.in-Err-added.is
    (after-added c.requires.up v (ap with_due c.requires.up.flags) c.take-gave.ensures.given c.added.result c.added.new.draft c.added.ensures.ok c.added.ensures.err c.added.ensures.wanting)

pub returns-clause-up : goal.returns-clause-up
returns-clause-up g c =
    let v = taken-at _ _ _ _ c.in-Arrived.is (if-ok _ _ _ c.in-Ok.is c.take-pass.ensures.ok) in
    on-ok _ _ _ c.in-Ok-added.is
    (up-added c.requires.up v (ap with_due c.requires.up.flags) c.take-gave.ensures.given c.added.result c.added.new.draft c.added.ensures.ok c.added.ensures.err c.added.ensures.wanting)

pub returns-in-Err-clause-err : goal.returns-in-Err-clause-err
returns-in-Err-clause-err g c = stored-looked (up-stored c.requires.up) (on-err _ _ _ c.in-Err.is c.take-pass.ensures.err)
