use Rattle.seat_lock.proofs.Names.{All, length, ap, ◌∙◌, subst, sym, AreNew, Belongs}
use Rattle.seat_lock.proofs.Dealing.{length-all_parts}
use Rattle.seat_lock.proofs.Showing.{new_passes}
use Rattle.seat_lock.proofs.openings.SeatLock+T.new.Goals as goal

pub deal-passes-requires-clause-idle : goal.deal-passes-requires-clause-idle
deal-passes-requires-clause-idle g c = let me_is = c.in-Ok-found.ensures.seat.1.2 in (ap (λ m. m.0.stage) me_is, ap (λ m. m.1) me_is, ap (λ m. m.0.heard) me_is)

pub deal-passes-requires-clause-count : goal.deal-passes-requires-clause-count
deal-passes-requires-clause-count g c = let me_is = c.in-Ok-found.ensures.seat.1.2 in (ap (λ m. length m.0.parts) me_is ∙ length-all_parts _ c.args.owners.now, c.requires.owners.0)

pub returns-in-Ok-found-clause-passes : goal.returns-in-Ok-found-clause-passes
returns-in-Ok-found-clause-passes g c = let made = c.in-Ok-found.ensures in let b = made.seat.1.0 in
    let are_new = subst (λ m. AreNew c.in-Ok-found.lock.table.shared.table_id m.0 m.0.parts c.deal-passes.result.items) made.seat.1.2 c.deal-passes.ensures in
    let t = new_passes c.in-Ok-found.lock.table.shared.table_id c.args.state b c.args.owners.now c.deal-passes.result.items made.seat.1.1 are_new in
    (subst (λ x. All (Belongs c.in-Ok-found.lock.table.shared.table_id x) c.deal-passes.result.items) (sym made.lock.1) t.0, t.1)
