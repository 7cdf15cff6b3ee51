use Rattle.thread_tests.proofs.PassLemmas.{dealt}
use Rattle.thread_tests.proofs.passes.start.Goals as goal

pub returns-clause-home : goal.returns-clause-home
returns-clause-home c = (dealt c.in-Ok.wire.lock c.in_ok-wire_of.field-0 _ _ _ _ _ _ _ _ _ _ c.pop.ensures.items c.pop-2.ensures.items c.pop-3.ensures.items c.in_ok-conductor.ensures.ok_part c.in_ok-broker.ensures.ok_part c.in_ok-home.ensures.ok_part
    c.in-Ok.ensures.passes c.in-Ok.ensures.fresh c.in_ok-wire_of.ensures.opened).0

pub returns-clause-broker : goal.returns-clause-broker
returns-clause-broker c = (dealt c.in-Ok.wire.lock c.in_ok-wire_of.field-0 _ _ _ _ _ _ _ _ _ _ c.pop.ensures.items c.pop-2.ensures.items c.pop-3.ensures.items c.in_ok-conductor.ensures.ok_part c.in_ok-broker.ensures.ok_part c.in_ok-home.ensures.ok_part
    c.in-Ok.ensures.passes c.in-Ok.ensures.fresh c.in_ok-wire_of.ensures.opened).1

pub returns-clause-conductor : goal.returns-clause-conductor
returns-clause-conductor c = (dealt c.in-Ok.wire.lock c.in_ok-wire_of.field-0 _ _ _ _ _ _ _ _ _ _ c.pop.ensures.items c.pop-2.ensures.items c.pop-3.ensures.items c.in_ok-conductor.ensures.ok_part c.in_ok-broker.ensures.ok_part c.in_ok-home.ensures.ok_part
    c.in-Ok.ensures.passes c.in-Ok.ensures.fresh c.in_ok-wire_of.ensures.opened).2
