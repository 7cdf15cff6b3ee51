use Rattle.run_starts.proofs.Names.{◌<◌, length, ap, ◌∙◌, arith, length_push}
use Rattle.run_starts.proofs.DealLemmas.{at-index, dealt-pushed, has-room}
use Rattle.run_starts.proofs.deals.+deal.Goals as goal

pub push_reserved-requires : goal.push_reserved-requires
push_reserved-requires g t c =
    let W = length c.args.shares.items in
    let xs = c.pop.new.self.items in
    let shares = c.deal-items.result.1 in
    let e = ap length c.in-Some.ensures.items ∙ length_push xs c.in-Some.last in
    let few : length xs < c.requires.room.0 = omega (arith, e, c.requires.room.1, c.args.items.ok) in
    has-room W c.requires.some xs c.requires.room.0 shares.items c.deal-items.ensures.dealt few (c.deal-items.ensures.room c.requires.room.0 c.requires.room.2) c.index_mut.result.now
    (at-index W c.requires.some xs c.in-Some.last shares.items c.index_mut.result.now c.index_mut.result.now c.len-place.result c.len-workers.result
    (omega (arith, c.len-place.ensures, c.pop.new.self.ok)) (omega (arith, c.len-workers.ensures, shares.ok, c.deal-items.ensures.count)) c.deal-items.ensures.count c.index_mut.ensures.value)

pub returns-clause-dealt : goal.returns-clause-dealt
returns-clause-dealt g t c =
    let W = length c.args.shares.items in
    let xs = c.pop.new.self.items in
    let shares = c.deal-items.result.1 in
    dealt-pushed W c.requires.some xs c.in-Some.last shares.items c.index_mut.result.now c.push_reserved.new.self c.len-place.result c.len-workers.result
    (omega (arith, c.len-place.ensures, c.pop.new.self.ok)) (omega (arith, c.len-workers.ensures, shares.ok, c.deal-items.ensures.count)) c.deal-items.ensures.count c.index_mut.ensures.value
    c.args.items.items c.in-Some.ensures.items c.deal-items.ensures.dealt c.push_reserved.ensures.items
