use Rattle.seat_lock.specs.Words.{IsPassOf}
use Rattle.thread_tests.proofs.locks.put_all.Given as goal

abbrev pub invariant-loop-number : goal.invariant-loop-number
invariant-loop-number g l = IsPassOf l.lock l.clerk.pass
