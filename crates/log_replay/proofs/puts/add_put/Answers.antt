use Rattle.std.proofs.Common.{◌≡◌, subst, if◌then◌else◌}
use Rattle.pseudo_time.specs.StampParts.{StampParts}
use Rattle.pseudo_time.specs.Order.{same_stamp}
use Rattle.serial_model.specs.Deeds.{put_in}
use Rattle.script_replay.specs.Attempts.{version_of}
use Rattle.log_replay.specs.Puts.{puts_at}
use Rattle.log_replay.specs.Telling.{left_at}
use Rattle.log_replay.proofs.PutLemmas.{put-added}
use Rattle.log_replay.proofs.puts.add_put.Goals as goal

pub returns : goal.returns
returns c =
    subst (λ (z : StampParts). (s : StampParts) → puts_at c.insert.new.self s ≡ (if same_stamp z s then put_in (version_of c.args.put) (puts_at c.args.puts.now s) else puts_at c.args.puts.now s)) c.stamp-stamp.ensures.value
    (put-added (λ s. left_at c.args.puts.now s) (λ s. left_at c.take_puts-own.new.puts s) (λ s. left_at c.insert.new.self s) c.stamp-stamp.result c.take_puts-own.result c.put_into.new.puts (version_of c.args.put)
    c.take_puts-own.ensures.own c.in_ok-put_into.ensures c.take_puts-own.ensures.left c.in_ok-insert.ensures.updates.0)
