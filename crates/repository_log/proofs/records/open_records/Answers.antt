use Rattle.repository_log.proofs.Names.{List, reverse, take, subst, sym, Effect, AreBegun}
use Rattle.repository_log.proofs.OpenLemmas.{begun-none, taken-next}
use Rattle.repository_log.proofs.records.open_records.Goals as goal

pub loop-effect-init : goal.loop-effect-init
loop-effect-init c = begun-none c.new-records.result c.new-records.ensures

pub loop-effect-preserved : goal.loop-effect-preserved
loop-effect-preserved c =
    let i = c.loop-effect.effect-index in let xs = c.args.effects.now in let x = c.effect-item.result in
    subst (λ (l : List Effect). AreBegun l c.add_begin.new.records) (sym (taken-next xs i x c.loop-effect-test.true c.effect-item.is))
    (c.in_ok-add_begin.ensures (reverse (take i xs)) c.loop-effect.invariant)
