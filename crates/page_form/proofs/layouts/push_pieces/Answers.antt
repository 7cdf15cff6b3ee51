use Rattle.std.proofs.Common.{◌∙◌, arith}
use Rattle.page_form.proofs.LayingLemmas.{pieces_more, pieces_last, push_length, push_bodies}
use Rattle.page_form.proofs.layouts.push_pieces.Goals as goal

pub loop-preserved : goal.loop-preserved
loop-preserved c =
    let was = c.loop.invariant in
    let items = c.in_ok-push.ensures.items in
    let pieces = c.split_at.ensures in
    record {
      left = omega (arith, was.left, pieces.back_len, c.loop-test.true);
      count = push_length c.loop.bodies.items c.push.new.self.items c.in_ok-full.full items ∙ omega (arith, was.count);
      bodies = push_bodies c.loop.bodies.items c.push.new.self.items c.in_ok-full.full items was.bodies c.in_ok-full.ensures.is;
      goes = pieces_more c.loop.bodies.items c.push.new.self.items c.in_ok-full.full c.loop.mark _ c.loop.counter c.loop.rest.now _ _ _ items c.in_ok-full.ensures.bytes pieces.front pieces.back c.loop-test.true was.goes;
    }

pub returns-clause-bodies : goal.returns-clause-bodies
returns-clause-bodies c = push_bodies c.loop.bodies.items c.push-2.new.self.items c.in_ok-last.last c.in_ok-push-2.ensures.items c.loop.invariant.bodies c.in_ok-last.ensures.is

pub returns-clause-bytes : goal.returns-clause-bytes
returns-clause-bytes c = pieces_last c.loop.bodies.items c.push-2.new.self.items c.in_ok-last.last c.loop.mark _ c.loop.counter c.loop.rest.now _ c.in_ok-push-2.ensures.items c.in_ok-last.ensures.bytes (omega (arith, c.loop-test.false)) c.loop.invariant.goes

pub returns-clause-count : goal.returns-clause-count
returns-clause-count c =
    let one = push_length c.loop.bodies.items c.push-2.new.self.items c.in_ok-last.last c.in_ok-push-2.ensures.items in
    let end = c.loop.auto.counter-end in
    omega (arith, one, c.loop.invariant.count, c.loop-test.false, end)
