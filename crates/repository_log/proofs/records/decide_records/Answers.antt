use Rattle.repository_log.proofs.Names.{List, reverse, take, subst, sym, Effect, AreDecided, AreKept}
use Rattle.repository_log.proofs.OpenLemmas.{decided-none, kept-none, taken-next}
use Rattle.repository_log.proofs.records.decide_records.Goals as goal

pub loop-effect-init : goal.loop-effect-init
loop-effect-init c = record {
  decided = decided-none (reverse c.args.effects.now) c.args.records.now c.requires.begun;
  kept = kept-none (reverse c.args.effects.now) c.args.early.now.entries c.requires.empty;
}

pub loop-effect-preserved : goal.loop-effect-preserved
loop-effect-preserved c =
    let i = c.loop-effect.effect-index in let xs = c.args.effects.now in let x = c.effect-item.result in let all = reverse xs in
    let next = sym (taken-next xs i x c.loop-effect-test.true c.effect-item.is) in let e = c.in_ok-add_decision.ensures in let h = c.loop-effect.invariant in
    record {
      decided = subst (λ (l : List Effect). AreDecided all l c.add_decision.new.records) next (e.records all (reverse (take i xs)) h.decided);
      kept = subst (λ (l : List Effect). AreKept all l c.add_decision.new.early.entries) next (e.early all (reverse (take i xs)) h.decided h.kept);
    }
