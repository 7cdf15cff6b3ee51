use Rattle.std.proofs.Common.{[], ◌∷◌}
use Rattle.seat_lock.specs.Words.{knows}
use Rattle.seat_lock.proofs.Popping.{owner_last, owners_front, owners_are}
use Rattle.thread_tests.proofs.locks.two_clerks.Goals as goal

pub last_clerk-requires-clause-last : goal.last_clerk-requires-clause-last
last_clerk-requires-clause-last c = owner_last (λ p. (knows p).owner) c.in-Ok.passes.items (1 ∷ 2 ∷ []) (owners_are _ (1 ∷ 2 ∷ []) c.in-Ok.passes.items c.in-Ok.ensures.passes.1)

pub last_clerk-requires-2-clause-last : goal.last_clerk-requires-2-clause-last
last_clerk-requires-2-clause-last c = owner_last (λ p. (knows p).owner) c.in_ok-passes.passes.items (1 ∷ [])
    (owners_front (λ p. (knows p).owner) c.in-Ok.passes.items (1 ∷ 2 ∷ []) (owners_are _ (1 ∷ 2 ∷ []) c.in-Ok.passes.items c.in-Ok.ensures.passes.1) c.in_ok-passes.passes.items c.in_ok-passes.ensures.rest)
