use Rattle.std.proofs.Common.{◌<◌, ◌∙◌, length, length-set, arith}
use Rattle.vote_run.proofs.PollLemmas.{turns-longer, ok-of, turned-on}
use Rattle.vote_run.proofs.poll_rounds.polls_turn.Goals as goal

pub loop-i-preserved : goal.loop-i-preserved
loop-i-preserved g c =
    let inv = c.loop-i.invariant in
    let ps = c.loop-i.polls.items in
    let i = c.loop-i.i in
    let old = c.index_mut.result.now in
    let new = c.poll_turn.new.poll in
    let less : i < length ps = omega (arith, inv.end) in
    record {
      end = length-set ps i new ∙ inv.end;
      count = length-set ps i new ∙ inv.count;
      adds = turns-longer c.args.courier.now.entries c.loop-i.courier c.poll_turn.new.courier i c.args.behind old new c.broker_at.result c.broker_at.ensures
          (ok-of c.poll_turn.result c.in_ok-poll_turn.field-0 c.in_ok-poll_turn.was c.poll_turn.ensures) inv.adds;
      turned = λ lines st at. turned-on lines c.args.courier.now c.loop-i.courier c.poll_turn.new.courier i ps old new _ c.broker_at.result c.args.behind less c.index_mut.ensures.value c.broker_at.ensures
          (ok-of c.poll_turn.result c.in_ok-poll_turn.field-0 c.in_ok-poll_turn.was c.poll_turn.ensures) (inv.turned lines st at);
    }
