use Rattle.node_inputs.proofs.Names.{is_broker, NodeId, knows, flags_at, ◌∙◌, ap, refl, false, []}
use Rattle.node_inputs.proofs.LifeLemmas.{on-ok, on-err, went-up, up-added, after-added, cause-added, up-stored, stored-looked}
use Rattle.node_inputs.proofs.TrailLemmas.{trail-looked, trail-added}
use Rattle.node_inputs.proofs.inputs.go.Goals as goal

pub returns-in-Err-clause-trail : goal.returns-in-Err-clause-trail
returns-in-Err-clause-trail g c = trail-looked c.args.node c.requires.up.own c.requires.pass.own (on-err _ _ _ c.in-Err.is c.go-pass.ensures.err)

pub returns-in-Ok-clause-trail : goal.returns-in-Ok-clause-trail
returns-in-Ok-clause-trail g c = trail-added c.args.node [] 0 c.requires.up.own c.requires.pass.own refl refl refl (on-ok _ _ _ c.in-Ok.is c.go-pass.ensures.ok).added

pub returns-in-Ok-clause-up : goal.returns-in-Ok-clause-up
returns-in-Ok-clause-up g c =
    up-added c.requires.up (on-ok _ _ _ c.in-Ok.is c.go-pass.ensures.ok) (went-up c.args.node.kind (flags_at (knows c.args.pass) c.args.node) false false c.requires.broker c.requires.up.flags) (c.go-gave.ensures.given (ap (λ (n : NodeId). is_broker n.kind) c.requires.up.node ∙ c.requires.broker))
    c.added.result c.added.new.draft c.added.ensures.ok c.added.ensures.err c.added.ensures.wanting

pub returns-in-Ok-clause-err : goal.returns-in-Ok-clause-err
returns-in-Ok-clause-err g c =
    after-added c.requires.up (on-ok _ _ _ c.in-Ok.is c.go-pass.ensures.ok) (went-up c.args.node.kind (flags_at (knows c.args.pass) c.args.node) false false c.requires.broker c.requires.up.flags) (c.go-gave.ensures.given (ap (λ (n : NodeId). is_broker n.kind) c.requires.up.node ∙ c.requires.broker))
    c.added.result c.added.new.draft c.added.ensures.ok c.added.ensures.err c.added.ensures.wanting

pub returns-in-Ok-clause-cause : goal.returns-in-Ok-clause-cause
returns-in-Ok-clause-cause g c =
    cause-added c.requires.up (on-ok _ _ _ c.in-Ok.is c.go-pass.ensures.ok) (went-up c.args.node.kind (flags_at (knows c.args.pass) c.args.node) false false c.requires.broker c.requires.up.flags) (c.go-gave.ensures.given (ap (λ (n : NodeId). is_broker n.kind) c.requires.up.node ∙ c.requires.broker))
    c.added.result c.added.new.draft c.added.ensures.ok c.added.ensures.err c.added.ensures.wanting

pub returns-in-Err-clause-err : goal.returns-in-Err-clause-err
returns-in-Err-clause-err g c = stored-looked (up-stored c.requires.up) (on-err _ _ _ c.in-Err.is c.go-pass.ensures.err)
