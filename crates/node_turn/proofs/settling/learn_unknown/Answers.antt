use Rattle.node_turn.proofs.Names.{is_broker, NodeId, knows, base_at, life_at, ◌∙◌, ap, refl, sym, []}
use Rattle.node_inputs.proofs.TrailLemmas.{trail-none}
use Rattle.node_turn.proofs.SettleLemmas.{learning-none}
use Rattle.node_turn.proofs.settling.learn_unknown.Goals as goal

pub returns-then-knows-clause-known : goal.returns-then-knows-clause-known
returns-then-knows-clause-known g c = λ t.
    sym (c.knows.ensures (ap (λ (n : NodeId). is_broker n.kind) c.requires.up.node ∙ c.requires.repository) t (base_at (knows c.args.pass)) (life_at (knows c.args.pass) c.args.node) (c.requires.up.life t).core) ∙ c.if-knows.true

pub learn_one-pass-requires-clause-new : goal.learn_one-pass-requires-clause-new
learn_one-pass-requires-clause-new g c = λ t.
    sym (c.knows.ensures (ap (λ (n : NodeId). is_broker n.kind) c.requires.up.node ∙ c.requires.repository) t (base_at (knows c.args.pass)) (life_at (knows c.args.pass) c.args.node) (c.requires.up.life t).core) ∙ c.if-knows.false

pub returns-then-knows-clause-learning : goal.returns-then-knows-clause-learning
returns-then-knows-clause-learning g c = λ t. learning-none _ _ refl

pub returns-then-knows-clause-trail : goal.returns-then-knows-clause-trail
returns-then-knows-clause-trail g c = ([], trail-none c.args.node (knows c.args.pass))
