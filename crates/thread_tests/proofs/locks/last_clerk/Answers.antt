use Rattle.seat_lock.specs.Words.{IsPassOf}
use Rattle.seat_lock.proofs.Popping.{all_popped}
use Rattle.thread_tests.proofs.locks.last_clerk.Goals as goal

pub returns-clause-pass : goal.returns-clause-pass
returns-clause-pass c = all_popped (IsPassOf c.args.lock.now) c.pop.new.self.items c.args.passes.items c.in_ok-pass.pass c.in_ok-pass.ensures.items c.requires.pass
