use Rattle.node_turn.proofs.Names.{knows, all_effects, life_at, Out, stamp_asked, ◌≡◌, ◌∙◌, refl, sym, ap, subst, true, false, List, length, ◌<◌, get_or}
use Rattle.node_inputs.proofs.LifeLemmas.{on-ok, unwritten-none, unwritten-joins}
use Rattle.node_turn.proofs.SeekLemmas.{seeks-none, seeks-joins, sought-none, sought-next}
use Rattle.node_turn.proofs.lookups.look_up_all.Goals as goal

pub returns-then-is_broker-clause-seeks : goal.returns-then-is_broker-clause-seeks
returns-then-is_broker-clause-seeks g c = seeks-none c.args.node (knows c.args.pass) _ (λ told repository. absurd (let x : false ≡ true = sym repository ∙ (sym c.is_broker.ensures ∙ c.if-is_broker.true) in cc x))

pub loop-index-init : goal.loop-index-init
loop-index-init g c = record {
  pass = c.requires.pass;
  up = c.requires.up;
  durable = refl;
  unwritten = unwritten-none _ _;
  seeks = seeks-none c.args.node (knows c.args.pass) _ (λ told. sought-none (all_effects (life_at (knows c.args.pass) c.args.node)) c.args.draft.now.outs);
}

pub returns-in-Err-clause-seeks : goal.returns-in-Err-clause-seeks
returns-in-Err-clause-seeks g c = seeks-joins c.args.node c.loop-index.invariant.seeks c.look_up_asked-back.ensures.seeks (λ t u p q. tt)

pub loop-index-preserved : goal.loop-index-preserved
loop-index-preserved g c =
    let e = c.look_up_asked-back.ensures in
    let before = c.loop-index.invariant in
    record {
      pass = e.pass;
      up = on-ok _ _ _ c.in_default.is e.up;
      durable = e.durable ∙ before.durable;
      unwritten = unwritten-joins before.unwritten e.unwritten;
      seeks = seeks-joins c.args.node before.seeks e.seeks (λ t u p q told.
          sought-next c.loop-index.index c.loop-index.draft.outs c.look_up_asked-back.new.draft.outs c.index-outs-index.result c.stamp_asked-asked.result
          (all_effects (life_at (knows c.loop-index.pass) c.args.node)) (all_effects (life_at (knows c.look_up_asked-back.result.0) c.args.node)) t u
          (subst (λ (l : List Out). c.loop-index.index < length l) c.outs.ensures c.loop-index-test.true)
          (c.stamp_asked-asked.ensures ∙ ap stamp_asked (c.index-outs-index.is ∙ ap (λ (l : List Out). get_or l c.loop-index.index c.index-outs-index.result) c.outs-in-loop-index.ensures))
          (on-ok _ _ _ c.in_default.is e.more) (e.log told) (p told) ((on-ok _ _ _ c.in_default.is q) told));
    }
