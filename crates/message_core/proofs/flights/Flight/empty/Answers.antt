use Rattle.message_core.proofs.Names.{subst, ◌↔◌, IsTrue, AllEmpty, FlightParts, state_of}
use Rattle.message_core.proofs.TakeLemmas.{empty_seen}
use Rattle.message_core.proofs.flights.Flight.empty.Goals as goal

pub returns : goal.returns
returns c =
    let i = c.self.inside in
    let seen = empty_seen i.letters.items i.ticks i.queues.entries i.held.entries in
    subst (λ (p : FlightParts). IsTrue c.are_empty.result ↔ AllEmpty (state_of p)) c.self.view_is (λ yes. seen.0 (c.are_empty.ensures.0 yes), λ all. c.are_empty.ensures.1 (seen.1 all))
