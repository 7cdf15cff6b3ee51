use Rattle.std.proofs.Common.{ap}
use Rattle.seat_lock.proofs.Belonging.{still_pass}
use Rattle.seat_lock.proofs.turns.SeatLock+T.draw_soon.Goals as goal

pub draw_served-requires : goal.draw_served-requires
draw_served-requires g c = let kept = c.loop-looks.invariant in let same = kept.1 in
    record { pass = still_pass _ _ c.args.seat.now c.loop-looks.seat c.requires.pass kept.0 (ap (λ m. m.1) same) (ap (λ m. m.0.stage) same) (ap (λ m. m.0.parts) same) (ap (λ m. m.0.base) same) }
