use Rattle.std.proofs.Common.{◌≡◌, ◌≤◌, ◌+◌, ◌/◌, [], length, All, vec_capacity, vec_len}
use Rattle.run_starts.proofs.deals.empty_shares.Given as goal

abbrev pub invariant-loop : goal.invariant-loop
invariant-loop g l = record {
  count : length l.shares.items ≡ l.counter;
  empty : All (λ s. s.items ≡ []) l.shares.items;
  room : All (λ s. l.count / l.workers + 1 ≤ vec_capacity s) l.shares.items;
  size : vec_len l.shares ≡ l.counter;
  whole : l.workers ≤ vec_capacity l.shares;
  same : (l.workers ≡ l.fn.workers) × (l.count ≡ l.fn.count);
}
