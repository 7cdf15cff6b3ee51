use Rattle.std.proofs.Common.{sym, subst}
use Rattle.pseudo_time.specs.Lists.{Has}
use Rattle.log_replay.proofs.DecisionLemmas.{grown-more, item-has, kept-more, turned-has}
use Rattle.log_replay.proofs.decisions.Rulings.read_log.Goals as goal

pub loop-effect-preserved : goal.loop-effect-preserved
loop-effect-preserved c =
    let now = c.loop-effect.invariant in
    let log = c.args.log.now in
    record {
      grown = grown-more c.args.self.now c.loop-effect.self c.read.new.self now.grown c.in_ok-read.ensures.grown;
      based = λ k inside are based.
          c.in_ok-read.ensures.based k inside (subst (Has c.effect-item.result) (sym are) (turned-has log c.effect-item.result (item-has log c.loop-effect.effect-index c.effect-item.result c.loop-effect-test.true c.effect-item.is))) (now.based k inside are based);
      kept = kept-more c.args.repository c.loop-effect.self c.read.new.self log c.loop-effect.effect-index c.effect-item.result c.loop-effect-test.true c.effect-item.is c.in_ok-read.ensures.grown now.kept c.in_ok-read.ensures.kept;
    }
