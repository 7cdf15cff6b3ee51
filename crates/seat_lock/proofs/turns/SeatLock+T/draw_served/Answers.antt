use Rattle.std.proofs.Common.{arith, refl}
use Rattle.seat_lock.proofs.ServedDrawing.{draws_served}
use Rattle.seat_lock.proofs.turns.SeatLock+T.draw_served.Goals as goal

pub compare_exchange-found-requires : goal.compare_exchange-found-requires
compare_exchange-found-requires g c = let pass = c.requires.pass in (pass.here, omega (arith, c.args.self.now.sized), draws_served _ _ _ _ _ _ _ _ refl pass.idle (omega (arith, pass.owned)))
