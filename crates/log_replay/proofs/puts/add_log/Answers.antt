use Rattle.log_replay.specs.Puts.{puts_at}
use Rattle.log_replay.proofs.PutLemmas.{log-init, log-step}
use Rattle.log_replay.proofs.puts.add_log.Goals as goal

pub loop-effect-init : goal.loop-effect-init
loop-effect-init c = λ s. log-init s c.args.log.now (puts_at c.args.puts.now s)

pub loop-effect-preserved : goal.loop-effect-preserved
loop-effect-preserved c = λ s.
    log-step s c.args.log.now c.loop-effect.effect-index c.effect-item.result c.loop-effect-test.true c.effect-item.is (puts_at c.args.puts.now s) (puts_at c.loop-effect.puts s) (puts_at c.add_effect.new.puts s)
    (c.in_ok-add_effect.ensures s) (c.loop-effect.invariant s)
