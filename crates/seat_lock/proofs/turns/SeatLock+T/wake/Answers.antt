use Rattle.std.proofs.Common.{arith}
use Rattle.seat_lock.proofs.turns.SeatLock+T.wake.Goals as goal

pub peek-requires : goal.peek-requires
peek-requires g c = omega (arith, c.args.self.now.sized)
