use Rattle.message_core.proofs.Names.{◌≡◌, ◌+◌, ◌-◌, ◌≤◌, puts}
use Rattle.std.specs.VecDeque.{deque_len, deque_capacity}
use Rattle.message_core.proofs.queues.put_copies.Given as goal

abbrev pub invariant-loop : goal.invariant-loop
invariant-loop l = record {
  items : puts (l.copies - l.counter) l.number l.overtake l.queue.items ≡ puts l.copies l.number l.overtake l.initial.queue.items;
  room : deque_len l.queue + (l.copies - l.counter) ≤ deque_capacity l.queue;
}
