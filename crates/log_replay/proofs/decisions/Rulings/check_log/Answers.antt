use Rattle.std.proofs.Common.{sym, subst, ◌∙◌}
use Rattle.pseudo_time.specs.Lists.{Has}
use Rattle.log_replay.proofs.DecisionLemmas.{decided-on, item-has, learned-more, turned-has}
use Rattle.log_replay.proofs.decisions.Rulings.check_log.Goals as goal

pub loop-effect-preserved : goal.loop-effect-preserved
loop-effect-preserved c =
    let now = c.loop-effect.invariant in
    let log = c.args.log.now in
    record {
      decided = c.check.ensures.decided ∙ now.decided;
      least = λ s m. c.check.ensures.least s (now.least s m);
      fits = learned-more c.loop-effect.self.decided c.check.new.self.decided c.loop-effect.self.least c.check.new.self.least log c.loop-effect.effect-index c.effect-item.result c.loop-effect-test.true c.effect-item.is c.check.ensures.decided
          c.check.ensures.least now.fits c.check.ensures.fits;
      based = λ k r inside are decided based.
          c.check.ensures.based k r inside (subst (Has c.effect-item.result) (sym are) (turned-has log c.effect-item.result (item-has log c.loop-effect.effect-index c.effect-item.result c.loop-effect-test.true c.effect-item.is)))
          (decided-on k c.args.self.now c.loop-effect.self now.decided now.least decided) (now.based k r inside are decided based);
    }
