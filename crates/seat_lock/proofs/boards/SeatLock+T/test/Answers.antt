use Rattle.seat_lock.proofs.Names.{arith, ap, holding}
use Rattle.seat_lock.proofs.Belonging.{still_pass}
use Rattle.seat_lock.proofs.Visiting.{tests}
use Rattle.seat_lock.proofs.boards.SeatLock+T.test.Goals as goal

pub load-requires : goal.load-requires
load-requires g c = (c.requires.pass.here, omega (arith, c.requires.word), tests _ _ _ _ _ _ c.args.word g.T.Storied.none_held (ap holding c.requires.pass.idle))

pub returns-clause-pass : goal.returns-clause-pass
returns-clause-pass g c = let told = c.load.ensures.2 in
    still_pass _ _ c.args.pass.now c.load.new.seat c.requires.pass c.load.ensures.0 told.2 (ap (λ v. v.stage) told.1) (ap (λ v. v.parts) told.1) (ap (λ v. v.base) told.1)
