use Rattle.node_turn.proofs.Names.{is_broker, NodeId, knows, Life, all_effects, Learning, place_of, Decided, base_at, life_at, flags_at, ◌≡◌, ◌∙◌, ap, refl, sym, subst, [], ◌∷◌, inl, inr, true, is_known}
use Rattle.node_inputs.specs.Learns.{IsNewTo}
use Rattle.node_inputs.proofs.LifeLemmas.{on-ok, on-err, learned-up, up-added, after-added, cause-added, up-tested, up-stored, stored-looked, life-tested, life-looked, log-same, log-told, log-joins}
use Rattle.node_inputs.proofs.TrailLemmas.{trail-looked, trail-added, trail-tested, trail-joins}
use Rattle.node_turn.proofs.SeekLemmas.{sought-learnt, seeks-none, none-found, all-found, missed-one, found-one}
use Rattle.node_inputs.proofs.KnowsLemmas.{told-knows}
use Rattle.node_turn.proofs.lookups.look_up.Goals as goal

pub returns-then-knows-clause-seeks : goal.returns-then-knows-clause-seeks
returns-then-knows-clause-seeks g c =
    seeks-none c.args.node (knows c.args.pass) _ (λ t. inl (sym (c.knows.ensures (ap (λ (n : NodeId). is_broker n.kind) c.requires.up.node ∙ c.requires.repository) t (base_at (knows c.args.pass)) (life_at (knows c.args.pass) c.args.node) (c.requires.up.life t).core) ∙ c.if-knows.true))

pub learn-pass-requires-clause-new : goal.learn-pass-requires-clause-new
learn-pass-requires-clause-new g c = λ t.
    subst (λ (l : Life). IsNewTo l c.args.stamp) (sym (life-tested c.args.node c.requires.up.own c.decided.ensures.tested))
    (sym (c.knows.ensures (ap (λ (n : NodeId). is_broker n.kind) c.requires.up.node ∙ c.requires.repository) t (base_at (knows c.args.pass)) (life_at (knows c.args.pass) c.args.node) (c.requires.up.life t).core) ∙ c.if-knows.false)

pub returns-in_default-clause-up : goal.returns-in_default-clause-up
returns-in_default-clause-up g c = up-tested c.requires.up c.decided.ensures.tested

pub returns-in_default-clause-log : goal.returns-in_default-clause-log
returns-in_default-clause-log g c = λ t. log-same (knows c.args.pass) (knows c.decided.new.pass) c.args.node (life-tested c.args.node c.requires.up.own c.decided.ensures.tested)

pub returns-in_default-clause-seeks : goal.returns-in_default-clause-seeks
returns-in_default-clause-seeks g c =
    let t = c.decided.ensures.tested in
    record {
      learned = [];
      tested = (place_of c.args.stamp, t.number) ∷ [];
      trail = trail-tested c.args.node c.requires.up.own c.requires.pass.own t;
      found = none-found ((place_of c.args.stamp, t.number) ∷ []);
      says = λ told. inr (missed-one c.args.stamp t.number (sym c.in_default.is ∙ t.tells));
    }

pub returns-in-Err-clause-err : goal.returns-in-Err-clause-err
returns-in-Err-clause-err g c = stored-looked (up-stored (up-tested c.requires.up c.decided.ensures.tested)) (on-err _ _ _ c.in-Err.is c.learn-pass.ensures.err)

pub returns-in-Err-clause-log : goal.returns-in-Err-clause-log
returns-in-Err-clause-log g c = λ t.
    let u = up-tested c.requires.up c.decided.ensures.tested in
    log-same (knows c.args.pass) (knows c.learn-pass.result.0) c.args.node (life-looked c.args.node u.own (on-err _ _ _ c.in-Err.is c.learn-pass.ensures.err) ∙ life-tested c.args.node c.requires.up.own c.decided.ensures.tested)

pub returns-in-Err-clause-seeks : goal.returns-in-Err-clause-seeks
returns-in-Err-clause-seeks g c =
    let t = c.decided.ensures.tested in
    let u = up-tested c.requires.up t in
    record {
      learned = [];
      tested = (place_of c.args.stamp, t.number) ∷ [];
      trail = trail-joins (trail-tested c.args.node c.requires.up.own c.requires.pass.own t) (trail-looked c.args.node u.own c.decided.ensures.pass.own (on-err _ _ _ c.in-Err.is c.learn-pass.ensures.err));
      found = none-found ((place_of c.args.stamp, t.number) ∷ []);
      says = tt;
    }

pub returns-in-Ok-clause-up : goal.returns-in-Ok-clause-up
returns-in-Ok-clause-up g c =
    let u = up-tested c.requires.up c.decided.ensures.tested in
    up-added u (on-ok _ _ _ c.in-Ok.is c.learn-pass.ensures.ok) (learned-up c.args.node.kind (flags_at (knows c.decided.new.pass) c.args.node) c.args.gone true c.requires.repository u.flags) (c.learn-gave.ensures.given (ap (λ (n : NodeId). is_broker n.kind) u.node ∙ c.requires.repository))
    c.added.result c.added.new.draft c.added.ensures.ok c.added.ensures.err c.added.ensures.wanting

pub returns-in-Ok-clause-err : goal.returns-in-Ok-clause-err
returns-in-Ok-clause-err g c =
    let u = up-tested c.requires.up c.decided.ensures.tested in
    after-added u (on-ok _ _ _ c.in-Ok.is c.learn-pass.ensures.ok) (learned-up c.args.node.kind (flags_at (knows c.decided.new.pass) c.args.node) c.args.gone true c.requires.repository u.flags) (c.learn-gave.ensures.given (ap (λ (n : NodeId). is_broker n.kind) u.node ∙ c.requires.repository))
    c.added.result c.added.new.draft c.added.ensures.ok c.added.ensures.err c.added.ensures.wanting

pub returns-in-Ok-clause-cause : goal.returns-in-Ok-clause-cause
returns-in-Ok-clause-cause g c =
    let u = up-tested c.requires.up c.decided.ensures.tested in
    cause-added u (on-ok _ _ _ c.in-Ok.is c.learn-pass.ensures.ok) (learned-up c.args.node.kind (flags_at (knows c.decided.new.pass) c.args.node) c.args.gone true c.requires.repository u.flags) (c.learn-gave.ensures.given (ap (λ (n : NodeId). is_broker n.kind) u.node ∙ c.requires.repository))
    c.added.result c.added.new.draft c.added.ensures.ok c.added.ensures.err c.added.ensures.wanting

pub returns-in-Ok-clause-log : goal.returns-in-Ok-clause-log
returns-in-Ok-clause-log g c = λ t.
    let v = on-ok _ _ _ c.in-Ok.is c.learn-pass.ensures.ok in
    log-joins _ _ _ (log-same (knows c.args.pass) (knows c.decided.new.pass) c.args.node (life-tested c.args.node c.requires.up.own c.decided.ensures.tested)) (log-told (base_at (knows c.decided.new.pass)) c.args.node (life_at (knows c.decided.new.pass) c.args.node) (life_at (knows c.learn-pass.result.0) c.args.node) (Learning c.args.stamp c.in-Some.committed) (v.lives t))

pub returns-in-Ok-clause-seeks : goal.returns-in-Ok-clause-seeks
returns-in-Ok-clause-seeks g c =
    let t = c.decided.ensures.tested in
    let u = up-tested c.requires.up t in
    let v = on-ok _ _ _ c.in-Ok.is c.learn-pass.ensures.ok in
    let d : Decided = (c.args.stamp, c.in-Some.committed) in
    record {
      learned = d ∷ [];
      tested = (place_of c.args.stamp, t.number) ∷ [];
      trail = trail-joins (trail-tested c.args.node c.requires.up.own c.requires.pass.own t) (trail-added c.args.node (d ∷ []) 0 u.own c.decided.ensures.pass.own refl refl refl v.added);
      found = all-found ((place_of c.args.stamp, t.number) ∷ []) d (found-one c.args.stamp t.number c.in-Some.committed (sym c.in-Some.is ∙ t.tells));
      says = sought-learnt c.added.result (λ told. inl (subst (λ (l : Life). is_known (all_effects l) c.args.stamp ≡ true) (sym (v.lives told)) (told-knows (base_at (knows c.decided.new.pass)) c.args.node (life_at (knows c.decided.new.pass) c.args.node) c.args.stamp c.in-Some.committed c.requires.repository)));
    }
