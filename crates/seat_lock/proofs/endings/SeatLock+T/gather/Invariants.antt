use Rattle.seat_lock.proofs.Names.{◌≡◌, ◌+◌, List, ◌++◌, length, vec_len, All, Idle, Seat, View, Covers}
use Rattle.seat_lock.proofs.endings.SeatLock+T.gather.Given as goal

abbrev pub invariant-loop-pass : goal.invariant-loop-pass
invariant-loop-pass g l =
    (l.seat.table_id ≡ l.initial.seat.table_id) × (l.seat.me.0.stage ≡ Idle) × (length l.seat.me.0.parts + vec_len l.passes ≡ vec_len l.initial.passes + 1)
    × Covers g.T.Storied.owner l.seat.me.0 l.initial.seat.me.0
    × ((popped : List (Seat g.row.T.Denot (View g.row.T.Denot g.row.T-Entry.Denot))) × (l.initial.passes.items ≡ l.passes.items ++ popped) × All (λ p. Covers g.T.Storied.owner l.seat.me.0 p.me.0) popped)

abbrev pub decreases-loop-pass : goal.decreases-loop-pass
decreases-loop-pass g l = vec_len l.passes
