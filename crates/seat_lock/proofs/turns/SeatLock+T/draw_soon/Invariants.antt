use Rattle.std.proofs.Common.{◌≡◌}
use Rattle.seat_lock.proofs.turns.SeatLock+T.draw_soon.Given as goal

abbrev pub invariant-loop-looks : goal.invariant-loop-looks
invariant-loop-looks g l = (l.seat.table_id ≡ l.initial.seat.table_id) × (l.seat.me ≡ l.initial.seat.me)
