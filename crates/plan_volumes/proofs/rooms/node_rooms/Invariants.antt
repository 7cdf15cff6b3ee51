use Rattle.std.proofs.Common.{◌≡◌, ◌≤◌, [], length, All, vec_capacity, vec_len}
use Rattle.plan_volumes.proofs.rooms.node_rooms.Given as goal

abbrev pub invariant-loop : goal.invariant-loop
invariant-loop g l = record {
  count : length l.rooms.items ≡ l.counter;
  empty : All (λ s. s.items ≡ []) l.rooms.items;
  room : All (λ s. 1000 ≤ vec_capacity s) l.rooms.items;
  size : vec_len l.rooms ≡ l.counter;
  whole : l.count ≤ vec_capacity l.rooms;
  same : l.count ≡ l.fn.count;
}
