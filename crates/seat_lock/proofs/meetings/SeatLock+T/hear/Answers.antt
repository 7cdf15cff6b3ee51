use Rattle.seat_lock.proofs.Names.{arith, ap, ◌∙◌, sym, subst, [], Begins, HasOwn}
use Rattle.seat_lock.proofs.Belonging.{still_pass}
use Rattle.seat_lock.proofs.SplitJoin.{tells, informs, learns}
use Rattle.seat_lock.proofs.meetings.SeatLock+T.hear.Goals as goal

pub split_seat-note-requires : goal.split_seat-note-requires
split_seat-note-requires g c = (c.requires.pass.1.here, omega (arith, c.args.self.now.sized), tells _ _ _ _ _)

pub join_seat-requires : goal.join_seat-requires
join_seat-requires g c = let cut = c.split_seat-note.ensures in (
  c.requires.pass.0.here,
  cut.3 ∙ c.requires.pass.1.here,
  ap (λ m. m.1) cut.4,
  omega (arith, c.args.self.now.sized),
  informs _ _ _ _ _ _ _ c.requires.pass.0.idle (ap (λ m. m.0.stage) cut.4) (ap (λ m. m.0.parts) cut.4),
)

pub load-requires : goal.load-requires
load-requires g c = (c.join_seat.ensures.0 ∙ c.requires.pass.0.here, omega (arith, c.args.self.now.sized), learns _ _ _ _ _ _)

pub returns-clause-learned : goal.returns-clause-learned
returns-clause-learned g c =
    let cut = c.split_seat-note.ensures.4 in let joined = c.join_seat.ensures.2 in let told = c.load.ensures.2 in
    let one = c.args.one.now.me.0 in let other = c.args.other.now.me.0 in let seen = c.join_seat.new.seat.me.0 in
    let f = told.1 one.story c.split_seat-note.result.me.0.story [] (ap (λ m. m.0.heard) joined) (ap (λ m. m.0.story) joined) in
    let now = ap (λ m. m.0.story) (sym told.0) in (
      subst (λ l. Begins one.story l) now f.0,
      subst (λ l. Begins l c.load.new.seat.me.0.story) (ap (λ m. m.0.story) cut) (subst (λ l. Begins c.split_seat-note.result.me.0.story l) now f.1),
      subst (λ ps. HasOwn g.T.Storied.owner ps c.load.new.seat.me.0.story) (ap (λ m. m.0.parts) joined) (subst (λ l. HasOwn g.T.Storied.owner seen.parts l) now f.2),
    )

pub returns-clause-pass : goal.returns-clause-pass
returns-clause-pass g c = let cut = c.split_seat-note.ensures in let joined = c.join_seat.ensures in let told = c.load.ensures.2.0 in let now = told ∙ joined.2 in (
  still_pass _ _ c.args.one.now c.load.new.seat c.requires.pass.0 (c.load.ensures.0 ∙ joined.0) (ap (λ m. m.1) now) (ap (λ m. m.0.stage) now) (ap (λ m. m.0.parts) now) (ap (λ m. m.0.base) now),
  still_pass _ _ c.args.other.now c.split_seat-note.new.seat c.requires.pass.1 cut.0 (ap (λ m. m.1) cut.2) (ap (λ m. m.0.stage) cut.2) (ap (λ m. m.0.parts) cut.2) (ap (λ m. m.0.base) cut.2),
)
