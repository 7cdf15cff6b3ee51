use Rattle.std.proofs.Common.{◌≡◌, ◌++◌}
use Rattle.std.specs.Prelude.{replicate}
use Rattle.seat_lock.specs.Words.{IsPassOf, knows}
use Rattle.callers.proofs.guests.sign_often.Given as goal

abbrev pub invariant-loop : goal.invariant-loop
invariant-loop g l = record {
  pass : IsPassOf l.lock l.pass;
  mine : (knows l.pass).owner ≡ l.who;
  own : (knows l.pass).own ≡ (knows l.initial.pass).own ++ replicate l.counter l.who;
}
