use Rattle.node_turn.proofs.Names.{is_broker, NodeId, knows, Life, all_effects, Decided, base_at, life_at, flags_at, ◌≡◌, ◌∙◌, ap, refl, sym, subst, [], ◌∷◌, true, is_known}
use Rattle.node_inputs.proofs.LifeLemmas.{on-ok, on-err, learned-up, up-added, after-added, cause-added, up-stored, stored-looked, life-looked}
use Rattle.node_inputs.proofs.TrailLemmas.{trail-looked, trail-added}
use Rattle.node_turn.proofs.SeekLemmas.{sought-learnt}
use Rattle.node_turn.proofs.SettleLemmas.{learning-none, learning-told}
use Rattle.node_inputs.proofs.KnowsLemmas.{told-knows}
use Rattle.node_turn.proofs.settling.learn_one.Goals as goal

pub returns-in-Err-clause-err : goal.returns-in-Err-clause-err
returns-in-Err-clause-err g c = stored-looked (up-stored c.requires.up) (on-err _ _ _ c.in-Err.is c.learn-pass.ensures.err)

pub returns-in-Err-clause-learning : goal.returns-in-Err-clause-learning
returns-in-Err-clause-learning g c = λ t. learning-none _ _ (life-looked c.args.node c.requires.up.own (on-err _ _ _ c.in-Err.is c.learn-pass.ensures.err))

pub returns-in-Err-clause-trail : goal.returns-in-Err-clause-trail
returns-in-Err-clause-trail g c = ([], trail-looked c.args.node c.requires.up.own c.requires.pass.own (on-err _ _ _ c.in-Err.is c.learn-pass.ensures.err))

pub returns-in-Ok-clause-up : goal.returns-in-Ok-clause-up
returns-in-Ok-clause-up g c =
    let u = c.requires.up in
    up-added u (on-ok _ _ _ c.in-Ok.is c.learn-pass.ensures.ok) (learned-up c.args.node.kind (flags_at (knows c.args.pass) c.args.node) c.args.gone c.args.due c.requires.repository u.flags) (c.learn-gave.ensures.given (ap (λ (n : NodeId). is_broker n.kind) u.node ∙ c.requires.repository))
    c.added.result c.added.new.draft c.added.ensures.ok c.added.ensures.err c.added.ensures.wanting

pub returns-in-Ok-clause-err : goal.returns-in-Ok-clause-err
returns-in-Ok-clause-err g c =
    let u = c.requires.up in
    after-added u (on-ok _ _ _ c.in-Ok.is c.learn-pass.ensures.ok) (learned-up c.args.node.kind (flags_at (knows c.args.pass) c.args.node) c.args.gone c.args.due c.requires.repository u.flags) (c.learn-gave.ensures.given (ap (λ (n : NodeId). is_broker n.kind) u.node ∙ c.requires.repository))
    c.added.result c.added.new.draft c.added.ensures.ok c.added.ensures.err c.added.ensures.wanting

pub returns-in-Ok-clause-cause : goal.returns-in-Ok-clause-cause
returns-in-Ok-clause-cause g c =
    let u = c.requires.up in
    cause-added u (on-ok _ _ _ c.in-Ok.is c.learn-pass.ensures.ok) (learned-up c.args.node.kind (flags_at (knows c.args.pass) c.args.node) c.args.gone c.args.due c.requires.repository u.flags) (c.learn-gave.ensures.given (ap (λ (n : NodeId). is_broker n.kind) u.node ∙ c.requires.repository))
    c.added.result c.added.new.draft c.added.ensures.ok c.added.ensures.err c.added.ensures.wanting

pub returns-in-Ok-clause-known : goal.returns-in-Ok-clause-known
returns-in-Ok-clause-known g c = λ t.
    let v = on-ok _ _ _ c.in-Ok.is c.learn-pass.ensures.ok in
    sought-learnt c.added.result (subst (λ (l : Life). is_known (all_effects l) c.args.stamp ≡ true) (sym (v.lives t)) (told-knows (base_at (knows c.args.pass)) c.args.node (life_at (knows c.args.pass) c.args.node) c.args.stamp c.args.committed c.requires.repository))

pub returns-in-Ok-clause-learning : goal.returns-in-Ok-clause-learning
returns-in-Ok-clause-learning g c = λ t.
    let v = on-ok _ _ _ c.in-Ok.is c.learn-pass.ensures.ok in
    learning-told (base_at (knows c.args.pass)) c.args.node (life_at (knows c.args.pass) c.args.node) (life_at (knows c.learn-pass.result.0) c.args.node) c.args.stamp c.args.committed c.requires.repository (v.lives t)

pub returns-in-Ok-clause-trail : goal.returns-in-Ok-clause-trail
returns-in-Ok-clause-trail g c =
    let v = on-ok _ _ _ c.in-Ok.is c.learn-pass.ensures.ok in
    let d : Decided = (c.args.stamp, c.args.committed) in
    (d ∷ [], trail-added c.args.node (d ∷ []) 0 c.requires.up.own c.requires.pass.own refl refl refl v.added)
