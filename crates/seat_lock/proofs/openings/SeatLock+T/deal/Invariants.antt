use Rattle.seat_lock.proofs.Names.{◌≡◌, ◌+◌, ◌≤◌, List, [], ◌++◌, length, vec_len, vec_capacity, Part, AreNew}
use Rattle.seat_lock.proofs.openings.SeatLock+T.deal.Given as goal

abbrev pub invariant-loop : goal.invariant-loop
invariant-loop g l =
    (l.seat.table_id ≡ l.initial.seat.table_id) × (l.seat.me ≡ (record l.initial.seat.me.0 { parts = l.seat.me.0.parts }, []))
    × (length l.seat.me.0.parts + l.counter ≡ l.count) × (vec_len l.passes ≡ l.counter) × (l.count ≤ vec_capacity l.passes)
    × ((given : List (Part g.row.T-Entry.Denot)) × (l.initial.seat.me.0.parts ≡ given ++ l.seat.me.0.parts) × AreNew l.self.table.shared.table_id l.initial.seat.me.0 given l.passes.items)
