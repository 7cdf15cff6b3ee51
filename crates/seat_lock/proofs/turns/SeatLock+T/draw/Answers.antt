use Rattle.seat_lock.proofs.Names.{◌≡◌, length, arith, ap, subst, ◌∙◌, IfNone}
use Rattle.seat_lock.proofs.Drawing.{draws}
use Rattle.seat_lock.proofs.turns.SeatLock+T.draw.Goals as goal

pub fetch_add-requires : goal.fetch_add-requires
fetch_add-requires g c = let soon = c.draw_soon.ensures in let pass = c.requires.pass in
    let same : c.draw_soon.new.seat.me ≡ c.args.seat.now.me = subst (λ r. IfNone r (c.draw_soon.new.seat.me ≡ c.args.seat.now.me)) c.in-None.is soon.none in
    let owned : length c.draw_soon.new.seat.me.0.parts ≡ 1 = ap (λ m. length m.0.parts) same ∙ pass.owned in
    (soon.here.0 ∙ pass.here, omega (arith, c.args.self.now.sized), draws _ _ _ _ _ _ (ap (λ m. m.0.stage) same ∙ pass.idle) (omega (arith, owned)))
