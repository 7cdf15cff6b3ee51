use Rattle.std.proofs.Common.{◌<◌, ◌∙◌, length, length-set, arith}
use Rattle.vote_run.proofs.PollLemmas.{goes-longer, ok-of, went-on}
use Rattle.vote_run.proofs.poll_rounds.polls_go.Goals as goal

pub loop-i-preserved : goal.loop-i-preserved
loop-i-preserved g c =
    let inv = c.loop-i.invariant in
    let ps = c.loop-i.polls.items in
    let i = c.loop-i.i in
    let old = c.index_mut.result.now in
    let new = c.poll_goes.new.poll in
    let less : i < length ps = omega (arith, inv.end) in
    record {
      end = length-set ps i new ∙ inv.end;
      count = length-set ps i new ∙ inv.count;
      adds = goes-longer c.args.courier.now.entries c.loop-i.courier c.poll_goes.new.courier i old new c.broker_at.result c.broker_at.ensures
          (ok-of c.poll_goes.result c.in_ok-poll_goes.field-0 c.in_ok-poll_goes.was c.poll_goes.ensures) inv.adds;
      went = λ lines st at. went-on lines c.args.courier.now c.loop-i.courier c.poll_goes.new.courier i ps old new _ c.broker_at.result less c.index_mut.ensures.value c.broker_at.ensures
          (ok-of c.poll_goes.result c.in_ok-poll_goes.field-0 c.in_ok-poll_goes.was c.poll_goes.ensures) (inv.went lines st at);
    }
