use Rattle.std.proofs.Common.{sym}
use Rattle.log_replay.specs.Puts.{puts_at}
use Rattle.log_replay.proofs.PutLemmas.{nothing-put, put-effect}
use Rattle.log_replay.proofs.puts.add_effect.Goals as goal

pub returns-in_ok-add_put-in-Put : goal.returns-in_ok-add_put-in-Put
returns-in_ok-add_put-in-Put c = λ s.
    put-effect s c.args.effect.now c.in-Put.object c.in-Put.start c.in-Put.value c.in_ok-value-in-Put.value (puts_at c.args.puts.now s) (puts_at c.add_put.new.puts s) c.in-Put.is c.in_ok-value-in-Put.ensures
    (c.in_ok-add_put-in-Put.ensures s)

pub returns-in_default : goal.returns-in_default
returns-in_default c = λ s. sym (nothing-put s c.args.effect.now (puts_at c.args.puts.now s) c.in_default.not-Put)
