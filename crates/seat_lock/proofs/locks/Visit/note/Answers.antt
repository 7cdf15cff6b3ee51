use Rattle.seat_lock.proofs.Names.{arith, refl, length, ap, ◌∙◌, shown, owner_in}
use Rattle.seat_lock.proofs.Visiting.{notes, length-owned_in}
use Rattle.seat_lock.proofs.Showing.{one_part, shown_noted, still_inside}
use Rattle.seat_lock.proofs.locks.Visit.note.Goals as goal

pub fetch_add-requires : goal.fetch_add-requires
fetch_add-requires g c = let t = c.requires.value in let self = c.args.self.now in let p = one_part self.seat.me.0.parts t.1.owned in
    (t.1.here, omega (arith, self.lock.now.sized), notes _ _ _ _ _ _ t.0 c.args.entry.now p.0 g.T.Storied.stays_held t.1.holds t.1.slot t.2 p.1 (c.requires.mine ∙ ap owner_in p.1))

pub returns-clause-sees : goal.returns-clause-sees
returns-clause-sees g c = let t = c.requires.value in let self = c.args.self.now in let p = one_part self.seat.me.0.parts t.1.owned in let told = c.fetch_add.ensures.2 t.0 t.1.slot in
    ap shown told.0 ∙ shown_noted g.T.Storied.owner self.seat.me.0 c.args.entry.now p.0 (g.T.Storied.story t.0) t.2 p.1 (c.requires.mine ∙ ap owner_in p.1) told.2

pub returns-clause-inside : goal.returns-clause-inside
returns-clause-inside g c = let t = c.requires.value in let self = c.args.self.now in let told = c.fetch_add.ensures.2 t.0 t.1.slot in
    λ x h. still_inside self _ x h refl refl c.fetch_add.ensures.0 told.1 (ap (λ v. v.stage) told.0) (ap (λ v. v.base) told.0)
    (ap (λ v. length v.parts) told.0 ∙ length-owned_in g.T.Storied.owner (g.T.Storied.story t.0) self.seat.me.0.parts)
