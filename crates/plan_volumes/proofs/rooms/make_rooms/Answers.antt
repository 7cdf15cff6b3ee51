use Rattle.std.proofs.Common.{◌∙◌, arith}
use Rattle.plan_volumes.proofs.rooms.make_rooms.Goals as goal

pub overflow_mul-count : goal.overflow_mul-count
overflow_mul-count g c =
    let repositories = c.requires.repositories.1 in
    let brokers = c.requires.brokers in
    omega (arith, repositories, brokers, c.node_count-count.ensures)

pub returns : goal.returns
returns g c =
    let count = c.node_count-count.ensures in
    record {
      nodes = c.in_ok-node_rooms.ensures.count ∙ count;
      node = (c.in_ok-node_rooms.ensures.empty, c.in_ok-node_rooms.ensures.room);
      openings = (c.in_ok-with_capacity.ensures.items, omega (arith, count, c.in_ok-with_capacity.ensures.capacity));
      asides = (c.in_ok-with_capacity-2.ensures.items, omega (arith, count, c.in_ok-with_capacity-2.ensures.capacity));
      media = (c.in_ok-with_capacity-3.ensures.items, omega (arith, count, c.in_ok-with_capacity-3.ensures.capacity));
      kept = (c.in_ok-with_capacity-4.ensures.items, omega (arith, count, c.in_ok-with_capacity-4.ensures.capacity));
    }
