use Rattle.seat_lock.proofs.Names.{rules, arith, sym, ◌∙◌, subst, ◌≡◌, step, Waiting, meaning, ticket_of, looked}
use mathlib.Core.Option.{none}
use Rattle.seat_lock.proofs.Looking.{looks}
use Rattle.seat_lock.proofs.turns.SeatLock+T.wait.Goals as goal

pub load-served-requires : goal.load-served-requires
load-served-requires g c = (search rules, omega (arith, c.args.self.now.sized), looks _ _ _ _ _ _ (subst (λ m. m.0.stage ≡ Waiting (ticket_of m.0.stage)) (sym c.loop.invariant.1) c.requires.waits))

pub returns-then-served-ticket-clause-took : goal.returns-then-served-ticket-clause-took
returns-then-served-ticket-clause-took g c =
    let new = c.load-served.new.seat.me in
    let told = subst (λ me. looked (meaning g.T.Storied.story g.T.Storied.stands g.T.Storied.owner g.T.Storied.may_hold) (step c.args.self.now.table.shared.table_id.slots 1 0 0 none) me c.load-served.result new) c.loop.invariant.1 c.load-served.ensures.2 in
    let got = told.0 (c.if-served-ticket.true ∙ c.requires.ticket) in
    (got.0, got.1, ((λ i. (got.2 i, got.3 i)), got.4, got.5, got.6))
