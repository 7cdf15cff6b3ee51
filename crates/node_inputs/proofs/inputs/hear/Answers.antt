use Rattle.node_inputs.proofs.Names.{refl, [], ap, with_due}
use Rattle.node_inputs.proofs.LifeLemmas.{if-ok, on-err, up-added, after-added, cause-added, up-stored, stored-looked}
use Rattle.node_inputs.proofs.TrailLemmas.{trail-looked, trail-added}
use Rattle.node_inputs.proofs.inputs.hear.Goals as goal

pub returns-in-Err-clause-trail : goal.returns-in-Err-clause-trail
returns-in-Err-clause-trail g c = trail-looked c.args.node c.requires.up.own c.requires.pass.own (on-err _ _ _ c.in-Err.is c.hear-pass.ensures.err)

pub returns-in-Ok-clause-trail : goal.returns-in-Ok-clause-trail
returns-in-Ok-clause-trail g c = trail-added c.args.node [] 0 c.requires.up.own c.requires.pass.own refl refl refl (if-ok _ _ _ c.in-Ok.is c.hear-pass.ensures.ok).added

pub returns-in-Ok-clause-up : goal.returns-in-Ok-clause-up
returns-in-Ok-clause-up g c =
    up-added c.requires.up (if-ok _ _ _ c.in-Ok.is c.hear-pass.ensures.ok) (ap with_due c.requires.up.flags) c.hear-gave.ensures.given
    c.added.result c.added.new.draft c.added.ensures.ok c.added.ensures.err c.added.ensures.wanting

pub returns-in-Ok-clause-err : goal.returns-in-Ok-clause-err
returns-in-Ok-clause-err g c =
    after-added c.requires.up (if-ok _ _ _ c.in-Ok.is c.hear-pass.ensures.ok) (ap with_due c.requires.up.flags) c.hear-gave.ensures.given
    c.added.result c.added.new.draft c.added.ensures.ok c.added.ensures.err c.added.ensures.wanting

pub returns-in-Ok-clause-cause : goal.returns-in-Ok-clause-cause
returns-in-Ok-clause-cause g c =
    cause-added c.requires.up (if-ok _ _ _ c.in-Ok.is c.hear-pass.ensures.ok) (ap with_due c.requires.up.flags) c.hear-gave.ensures.given
    c.added.result c.added.new.draft c.added.ensures.ok c.added.ensures.err c.added.ensures.wanting

pub returns-in-Err-clause-err : goal.returns-in-Err-clause-err
returns-in-Err-clause-err g c = stored-looked (up-stored c.requires.up) (on-err _ _ _ c.in-Err.is c.hear-pass.ensures.err)
