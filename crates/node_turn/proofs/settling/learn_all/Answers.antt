use Rattle.node_turn.proofs.Names.{knows, all_effects, life_at, world_at, Decided, ◌∙◌, ◌++◌, refl, sym, ap, subst, [], Ok, take_all}
use Rattle.node_inputs.specs.Legal.{IsDecidedAs}
use Rattle.node_inputs.proofs.LifeLemmas.{on-ok, if-ok, unwritten-none, unwritten-joins}
use Rattle.node_inputs.proofs.TrailLemmas.{trail-none, trail-joins}
use Rattle.node_turn.specs.Settles.{AreKnown}
use Rattle.node_turn.proofs.SettleLemmas.{learning-none, learning-joins, known-later, known-next, stand-on, stand-at}
use Rattle.node_turn.proofs.settling.learn_all.Goals as goal

pub loop-decision-init : goal.loop-decision-init
loop-decision-init g c = record {
  pass = c.requires.pass;
  up = c.requires.up;
  stand = c.requires.stand;
  known = λ t. tt;
  learning = λ t. learning-none _ _ refl;
  trail = ([], trail-none c.args.node (knows c.args.pass));
  durable = refl;
  unwritten = unwritten-none _ _;
  none = λ e. refl;
}

pub learn_unknown-back-requires-clause-stands : goal.learn_unknown-back-requires-clause-stands
learn_unknown-back-requires-clause-stands g c = λ t.
    subst (λ (d : Decided). IsDecidedAs (world_at (knows c.loop-decision.pass)) d.0 d.1) (sym c.decision-item.is)
    (stand-at (world_at (knows c.loop-decision.pass)) c.loop-decision.decision-index c.args.decisions.now c.decision-item.result c.loop-decision-test.true (c.loop-decision.invariant.stand t))

pub returns-in-Err-clause-learning : goal.returns-in-Err-clause-learning
returns-in-Err-clause-learning g c = λ t. learning-joins _ _ _ (c.loop-decision.invariant.learning t) (c.learn_unknown-back.ensures.learning t)

pub returns-in-Err-clause-trail : goal.returns-in-Err-clause-trail
returns-in-Err-clause-trail g c =
    let p = c.loop-decision.invariant.trail in
    let q = c.learn_unknown-back.ensures.trail in
    (p.0 ++ q.0, trail-joins p.1 q.1)

pub loop-decision-preserved : goal.loop-decision-preserved
loop-decision-preserved g c =
    let e = c.learn_unknown-back.ensures in
    let before = c.loop-decision.invariant in
    let ds = c.args.decisions.now in
    let i = c.loop-decision.decision-index in
    record {
      pass = e.pass;
      up = if-ok _ _ _ c.in-Ok.is e.up;
      stand = λ t. stand-on c.args.node ds e.trail.1 (before.stand t);
      known = λ t.
          known-next (all_effects (life_at (knows c.learn_unknown-back.result.0) c.args.node)) i ds c.decision-item.result c.decision-item.result c.loop-decision-test.true c.decision-item.is
          (known-later _ _ _ (e.learning t) (before.known t)) (on-ok _ _ _ c.in-Ok.is (e.known t));
      learning = λ t. learning-joins _ _ _ (before.learning t) (e.learning t);
      trail = (before.trail.0 ++ e.trail.0, trail-joins before.trail.1 e.trail.1);
      durable = e.durable ∙ before.durable;
      unwritten = unwritten-joins before.unwritten e.unwritten;
      none = λ f. (let x = e.none (c.in-Ok.is ∙ ap (λ b. Ok b) f) in x.0 ∙ before.none x.1);
    }

pub returns-clause-known : goal.returns-clause-known
returns-clause-known g c = λ t.
    subst (AreKnown (all_effects (life_at (knows c.loop-decision.pass) c.args.node))) (take_all c.loop-decision.decision-index c.args.decisions.now c.loop-decision-test.false) (c.loop-decision.invariant.known t)
