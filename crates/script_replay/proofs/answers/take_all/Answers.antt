use Rattle.script_replay.proofs.WorkLemmas.{stopped}
use Rattle.script_replay.proofs.answers.take_all.Goals as goal

pub returns-then-not-took : goal.returns-then-not-took
returns-then-not-took c =
    stopped c.args.map.now c.args.run.now c.loop-reply.run c.take.new.run c.take.new.writes c.args.replies.now c.loop-reply.reply-index c.reply-item.result
    c.loop-reply.invariant.0 c.loop-reply.invariant.1 c.loop-reply-test.true c.reply-item.is c.in_ok-took.took c.if-not-took.true c.in_ok-took.ensures
